-- From each state some text leads to the end of a path.
use Rattle.std.proofs.Common.{◌≡◌, ℕ, Some, List, [], ◌∷◌, refl}
use Rattle.acl_model.specs.declared.path.Path.{Path}
use Rattle.xpath_rules.specs.declared.quote.Quote.{Quote}
use Rattle.xpath_rules.specs.declared.quote.Quote.TheVariants.{Double, Single}
use Rattle.xpath_rules.specs.declared.state.State.{State}
use Rattle.xpath_rules.specs.declared.state.Level.{Level}
use Rattle.xpath_rules.specs.declared.state.Inside.{Inside}
use Rattle.xpath_rules.specs.PathMachine.{run, path_at_end}

-- A text leads from the state to the end of a path.
abbrev pub Completes : List ℕ → State → List ℕ → Type 0
Completes user s rest = (t : State) × (path : Path) × (run user rest s ≡ Some t) × (path_at_end t ≡ Some path)

-- After a body: a comparison with the empty literal.
abbrev pub from_body : List ℕ
from_body = 61 ∷ 34 ∷ 34 ∷ 93 ∷ []

abbrev pub from_literal : Quote → List ℕ
from_literal Double = 34 ∷ 93 ∷ []
from_literal Single = 39 ∷ 93 ∷ []

abbrev pub rest_inside : Inside → List ℕ
rest_inside Inside.Open = 97 ∷ 93 ∷ []
rest_inside Inside.Dot = from_body
rest_inside Inside.DotSlash = 47 ∷ 97 ∷ from_body
rest_inside (Inside.InWay level) = from_body
rest_inside (Inside.WaySlash way) = 97 ∷ from_body
rest_inside (Inside.WaySlashes way) = 97 ∷ from_body
rest_inside (Inside.AfterAt way) = 97 ∷ from_body
rest_inside (Inside.InAttribute way name) = from_body
rest_inside (Inside.AfterBody body) = from_body
rest_inside (Inside.Exclamation body) = from_body
rest_inside (Inside.Less body) = 34 ∷ 34 ∷ 93 ∷ []
rest_inside (Inside.Greater body) = 34 ∷ 34 ∷ 93 ∷ []
rest_inside (Inside.AfterSign c) = 34 ∷ 34 ∷ 93 ∷ []
rest_inside (Inside.InLiteral c quote bytes) = from_literal quote
rest_inside (Inside.Minus c) = 48 ∷ 93 ∷ []
rest_inside (Inside.InNumber c digits) = 93 ∷ []
rest_inside (Inside.LetterU c) = 83 ∷ 69 ∷ 82 ∷ 93 ∷ []
rest_inside (Inside.LettersUs c) = 69 ∷ 82 ∷ 93 ∷ []
rest_inside (Inside.LettersUse c) = 82 ∷ 93 ∷ []
rest_inside (Inside.AfterOperand pred) = 93 ∷ []

inside_completes : (user : List ℕ) (level : Level) (inside : Inside) → Completes user (State.InPredicate level inside) (rest_inside inside)
unfolding run
inside_completes user level Inside.Open = (_, _, refl, refl)
inside_completes user level Inside.Dot = (_, _, refl, refl)
inside_completes user level Inside.DotSlash = (_, _, refl, refl)
inside_completes user level (Inside.InWay way) = (_, _, refl, refl)
inside_completes user level (Inside.WaySlash way) = (_, _, refl, refl)
inside_completes user level (Inside.WaySlashes way) = (_, _, refl, refl)
inside_completes user level (Inside.AfterAt way) = (_, _, refl, refl)
inside_completes user level (Inside.InAttribute way name) = (_, _, refl, refl)
inside_completes user level (Inside.AfterBody body) = (_, _, refl, refl)
inside_completes user level (Inside.Exclamation body) = (_, _, refl, refl)
inside_completes user level (Inside.Less body) = (_, _, refl, refl)
inside_completes user level (Inside.Greater body) = (_, _, refl, refl)
inside_completes user level (Inside.AfterSign c) = (_, _, refl, refl)
inside_completes user level (Inside.InLiteral c Double bytes) = (_, _, refl, refl)
inside_completes user level (Inside.InLiteral c Single bytes) = (_, _, refl, refl)
inside_completes user level (Inside.Minus c) = (_, _, refl, refl)
inside_completes user level (Inside.InNumber c digits) = (_, _, refl, refl)
inside_completes user level (Inside.LetterU c) = (_, _, refl, refl)
inside_completes user level (Inside.LettersUs c) = (_, _, refl, refl)
inside_completes user level (Inside.LettersUse c) = (_, _, refl, refl)
inside_completes user level (Inside.AfterOperand pred) = (_, _, refl, refl)

-- What leads from a state to the end of a path.
abbrev pub rest_of : State → List ℕ
rest_of State.Start = 47 ∷ 97 ∷ []
rest_of (State.AfterSlash done) = 97 ∷ []
rest_of (State.AfterSlashes done) = 97 ∷ []
rest_of (State.InStep level) = []
rest_of (State.InPredicate level inside) = rest_inside inside

pub completes : (user : List ℕ) (s : State) → Completes user s (rest_of s)
unfolding run
completes user State.Start = (_, _, refl, refl)
completes user (State.AfterSlash done) = (_, _, refl, refl)
completes user (State.AfterSlashes done) = (_, _, refl, refl)
completes user (State.InStep level) = (_, _, refl, refl)
completes user (State.InPredicate level inside) = inside_completes user level inside
