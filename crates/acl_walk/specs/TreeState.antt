-- The model of a walk over a tree. Defined by this project.
use Rattle.std.specs.Prelude.{◌≡◌, ℕ, ◌^◌, ◌<◌, Bool, true, ◌||◌, List, length}
use Rattle.std.specs.List.{list_all}
use Rattle.acl_model.specs.Document.{is_dummy_name, is_view_document}
use Rattle.acl_model.specs.Dictionary.{has_name, start_names}
use Rattle.acl_model.specs.declared.document.Doc.{Doc}
use Rattle.acl_walk.specs.Listed.{AreNames}
use Rattle.acl_walk.specs.TreeEvents.{document_events}

-- the fixed part of a walk over a tree: the document, and the names whose numbers are the tags
pub record Tree : Type 0 where
  pub doc : Doc
  pub names : List (List ℕ)

-- a walk over a tree: its fixed part, and how many events were taken
pub record TreeState : Type 0 where
  pub tree : Tree
  pub taken : ℕ

-- The name is one of the names, or a dummy's.
abbrev pub is_known : List (List ℕ) → List ℕ → Bool
is_known names name = is_dummy_name name || has_name names name

-- The name of each element in the document is known.
abbrev pub knows : List (List ℕ) → Doc → Bool
knows names d = list_all (is_known names) (start_names d.root)

-- A tree can be walked: the document is a view document, there are at most 256 names and no two are the
-- same, each name in the document is known, and there are fewer than 2^64 events.
pub record CanBeWalked (tree : Tree) : Type 0 where
  pub formed : is_view_document tree.doc ≡ true
  pub names : AreNames tree.names
  pub known : knows tree.names tree.doc ≡ true
  pub short : length (document_events tree.names tree.doc) < 2 ^ 64
