-- The tree of first walks of a level has an empty entry at the place of the root, and nowhere else.
use Rattle.std.proofs.Common.{◌≡◌, ◌↔◌, ℕ, [], None, Some, slice_get, refl, ap, ◌∙◌}
use Rattle.wh_words.specs.Levels.Reaches.{here}
use Rattle.wh_level.specs.Trees.{LevelData, IsClosedLevel}
use Rattle.wh_level.proofs.SearchEnds.{same_places}
use Rattle.wh_stab.proofs.FirstWalkTrees.{first_walks_span}
use Rattle.wh_data.specs.RootPlaces.{root_place}
use Rattle.wh_cert.proofs.Spanning.{root_found}

pub root_entries : (l : LevelData) → IsClosedLevel l → (v : ℕ) → (slice_get l.parents v ≡ Some None) ↔ (v ≡ root_place l.root l.tuples)
root_entries l closed v = (
  λ e. same_places l.tuples v (root_place l.root l.tuples) l.root closed.level.sorted ((first_walks_span l closed).at_root v e) found,
  λ e. (closed.parents.none v l.root (ap (slice_get l.tuples) e ∙ found)).1 refl,
)
  where
    found : slice_get l.tuples (root_place l.root l.tuples) ≡ Some l.root
    found = root_found l.root l.tuples ((closed.level.exact l.root).1 ([], here))
