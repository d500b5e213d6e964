use Rattle.std.proofs.Common.{◌≡◌, ◌<◌, false, [], ◌∷◌, ◌++◌, length, subst, sym, arith}
use Rattle.acl_model.specs.Dictionary.{has_name}
use Rattle.tag_dictionary.specs.inside.Index.{IsIndex}
use Rattle.tag_dictionary.proofs.Numbers.{IsIndex-put}
use Rattle.tag_dictionary.proofs.dictionary.Dictionary.push.Goals as goal

-- the map and the list of names are extended together
pub invariant_of-self-in-Ok : goal.invariant_of-self-in-Ok
invariant_of-self-in-Ok c =
    let grown : c.push.new.self.items ≡ c.self.inside.names.items ++ (c.args.name.now ∷ []) = grind arith in
    let new : has_name c.self.inside.names.items c.args.name.now ≡ false = cc in
    let room : length c.self.inside.names.items < 256 = grind arith in
    let counted : c.len-number.result ≡ length c.self.inside.names.items = grind arith in
    subst (IsIndex c.insert.new.self) (sym grown)
    (IsIndex-put c.self.inside.numbers c.insert.new.self c.in_ok-key.key c.len-number.result c.self.inside.names.items c.args.name.now
    c.self.invariant c.requires.named new room c.in_ok-key.ensures.items counted c.in-Ok.ensures.updates)
