-- Which names the elements of a document may have, and which those of a view.
use Rattle.std.specs.Prelude.{ℕ, Bool, List}
use Rattle.acl_model.specs.Names.{is_name}
use Rattle.acl_model.specs.Document.{is_view_name}
use Rattle.acl_model.specs.declared.form.Allowed.{Allowed}
use Rattle.acl_model.specs.declared.form.Allowed.TheVariants.{InDocuments, InViews}

-- In a document an element has a name. In a view it may also have the name of a dummy.
abbrev pub allows : Allowed → List ℕ → Bool
allows InDocuments = is_name
allows InViews = is_view_name
