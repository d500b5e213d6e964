-- Conditions on the names of a walk and on the list of events that it stands for. Defined by this project.
use Rattle.std.specs.Prelude.{◌≡◌, ℕ, ◌≤◌, true, Option, List, length, IfSome}
use Rattle.acl_model.specs.Limits.{most_names}
use Rattle.acl_model.specs.Document.{is_view_document}
use Rattle.acl_model.specs.Dictionary.{are_distinct}
use Rattle.acl_model.specs.declared.document.Doc.{Doc}
use Rattle.acl_walk.specs.Spelling.{Spells}
use Rattle.acl_walk.specs.declared.event.Event.{Event}

-- There are at most 256 names, and no two are the same.
pub record AreNames (names : List (List ℕ)) : Type 0 where
  pub few : length names ≤ most_names
  pub distinct : are_distinct names ≡ true

-- The list spells the document, or no document, under the names. The document is a view document.
pub record IsListOf (names : List (List ℕ)) (shown : Option Doc) (list : List Event) : Type 0 where
  pub spelled : Spells names shown list
  pub formed : IfSome shown (λ d. is_view_document d ≡ true)
