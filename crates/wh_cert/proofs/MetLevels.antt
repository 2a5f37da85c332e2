-- What is met of a list of tuples that is asked to be a level: it is sorted, it has the root, and level moves lead to tuples of it alone.
use Rattle.std.proofs.Common.{◌≡◌, ℕ, suc, ◌+◌, ◌<◌, List, [], ◌∷◌, ◌++◌, length, Option, Contains, sym, subst, arith}
use Rattle.std.specs.List.{All}
use Rattle.std.specs.List.Sorted.{IsStrictlySortedBy}
use Rattle.std.proofs.lemmas.List.Elements.{All-from_get_or, All-contains}
use Rattle.std.proofs.lemmas.Map.Keys.{sorted_from_all_adjacent}
use Rattle.std.specs.declared.cmp.Ordering.TheVariants.{Less}
use Rattle.wh_words.specs.Tuples.{TupleData, tuple_length, tuple_cmp}
use Rattle.wh_words.specs.Moves.{Move}
use Rattle.wh_words.specs.Levels.{Reaches}
use Rattle.wh_words.specs.Levels.Reaches.{here, step}
use Rattle.wh_words.proofs.SameTuples.{tuple_cmp_total}
use Rattle.wh_cert.specs.Demands.{Placed, has_root, rises, has_height, is_closed, Rises, ImagesAreIn, tuple_at, absent_asked, asked_below, at_asked, level_asked}
use Rattle.wh_cert.specs.Checks.{AreMet}
use Rattle.wh_cert.proofs.MetParts.{first_met, rest_met, rest_part, met_in}

module _ (place : ℕ) (root : TupleData) (second : Option TupleData) (ts : List TupleData) (met : AreMet (level_asked place root second ts)) where
  pub root_in : Contains ts root
  root_in = first_met place (has_root root ts) (asked_below (at_asked (place + 1) root second ts) (length ts)) met

  pub tuple_met : (k : ℕ) → k < length ts → AreMet (at_asked (place + 1) root second ts k)
  tuple_met k l = met_in (at_asked (place + 1) root second ts) (length ts) k l (rest_met place (has_root root ts) (asked_below (at_asked (place + 1) root second ts) (length ts)) met)

  -- What is asked of a tuple of the level after its order.
  abbrev higher_asked : ℕ → List Placed
  higher_asked k = (place + 1 + k, has_height root (tuple_at ts k)) ∷ (absent_asked (place + 1 + k) second (tuple_at ts k) ++ (place + 1 + k, is_closed ts (tuple_at ts k)) ∷ [])

  risen : (k : ℕ) → k < length ts → Rises ts k
  risen k l = first_met (place + 1 + k) (rises ts k) (higher_asked k) (tuple_met k l)

  higher : (k : ℕ) → k < length ts → AreMet (higher_asked k)
  higher k l = rest_met (place + 1 + k) (rises ts k) (higher_asked k) (tuple_met k l)

  abbrev last_asked : ℕ → List Placed
  last_asked k = absent_asked (place + 1 + k) second (tuple_at ts k) ++ (place + 1 + k, is_closed ts (tuple_at ts k)) ∷ []

  closed_at : (k : ℕ) → k < length ts → ImagesAreIn ts (tuple_at ts k)
  closed_at k l =
      first_met (place + 1 + k) (is_closed ts (tuple_at ts k)) []
      (rest_part (absent_asked (place + 1 + k) second (tuple_at ts k)) ((place + 1 + k, is_closed ts (tuple_at ts k)) ∷ []) (rest_met (place + 1 + k) (has_height root (tuple_at ts k)) (last_asked k) (higher k l)))

  pub all_high : All (λ t. tuple_length t ≡ tuple_length root) ts
  all_high = All-from_get_or (λ t. tuple_length t ≡ tuple_length root) ts (record { rank = 0; words = [] }) (λ k l. first_met (place + 1 + k) (has_height root (tuple_at ts k)) (last_asked k) (higher k l))

  pub all_closed : All (ImagesAreIn ts) ts
  all_closed = All-from_get_or (ImagesAreIn ts) ts (record { rank = 0; words = [] }) closed_at

  pub level_sorted : IsStrictlySortedBy tuple_cmp ts
  level_sorted =
      sorted_from_all_adjacent tuple_cmp_total ts (record { rank = 0; words = [] }) (λ k l.
      let next : k + 1 ≡ suc k = omega arith in
      subst (λ (j : ℕ). tuple_cmp (tuple_at ts k) (tuple_at ts j) ≡ Less) (sym next) (risen (suc k) (omega (arith, l))))

  -- Level moves lead from a tuple of the list to tuples of the list alone.
  pub stays : {t u : TupleData} {ms : List Move} → Contains ts t → Reaches t ms u → Contains ts u
  stays there here = there
  stays {t} there (step {m = m} l r) = stays (All-contains (ImagesAreIn ts) ts t all_closed there m l) r
