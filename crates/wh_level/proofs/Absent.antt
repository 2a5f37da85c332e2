-- What rows miss, row by row and move by move.
use Rattle.std.proofs.Common.{◌≡◌, ◌≢◌, ◌⊎◌, ◌↔◌, ℕ, List, [], ◌∷◌, ◌++◌, get_or, map, Option, Some, None, slice_get, Contains, sym, ap, ◌∙◌, subst, inl, inr, Bool, true, false, not, is_some}
use Rattle.std.proofs.lemmas.Bool.{true≢false}
use Rattle.std.proofs.lemmas.Option.{slice_get_within, get_or_from_slice_get}
use Rattle.std.proofs.lemmas.List.Elements.{All-contains, Contains-get_or, Contains-append_left, Contains-push, Contains-push_cases}
use Rattle.std.proofs.lemmas.List.Sorted.{Contains-permutation, IsPermutation-sym}
use Rattle.std.specs.List.{All}
use Rattle.std.specs.List.Sorted.{IsPermutation, IsStrictlySortedBy}
use Rattle.std.specs.Option.{MatchOption}
use Rattle.wh_words.specs.Tuples.{TupleData, Tuple, tuple_cmp}
use Rattle.wh_words.specs.Moves.{Move}
use Rattle.wh_words.specs.Action.{act}
use Rattle.wh_words.specs.Levels.{IsLevelMove, InLevel}
use Rattle.wh_expand.specs.declared.row.Row.{Row}
use Rattle.wh_expand.specs.Rows.{AreLevelMoves, row_tuple}
use Rattle.wh_sets.specs.TupleSets.{IsAdded}
use Rattle.wh_sets.proofs.Additions.{added_either}
use Rattle.wh_words.proofs.Elements.{contains_none, contains_map, map_contains}
use Rattle.wh_level.specs.PlacedTuples.{IsPlacing}
use Rattle.wh_level.specs.Trees.{LevelData, IsClosedLevel}
use Rattle.wh_level.specs.Sealings.{IsMissed}
use Rattle.wh_level.specs.Searches.{IsAbsentImage}

-- ---- the moves of a row
-- The image under one of these moves isn't among the tuples.
pub record IsAbsentBy (tuples : List TupleData) (t : TupleData) (moves : List Move) (u : TupleData) : Type 0 where
  pub via : Move
  pub listed : Contains moves via
  pub is : u ≡ act t via
  pub absent : ¬ (Contains tuples u)

abbrev pub FoundBy : List TupleData → TupleData → List Move → List TupleData → List TupleData → Type 0
FoundBy tuples t moves es fs = (u : TupleData) → Contains fs u ↔ (Contains es u ⊎ IsAbsentBy tuples t moves u)

pub found_by_none : (tuples : List TupleData) (t : TupleData) (es : List TupleData) → FoundBy tuples t [] es es
found_by_none tuples t es u = (
  λ c. inl c,
  λ d. elim d [
    | inl c ↦ c
    | inr a ↦ absurd (contains_none a.via a.listed)
  ],
)

by_more : (tuples : List TupleData) (t : TupleData) (moves : List Move) (m : Move) (u : TupleData) → IsAbsentBy tuples t moves u → IsAbsentBy tuples t (moves ++ m ∷ []) u
by_more tuples t moves m u a = record { via = a.via; listed = Contains-append_left moves (m ∷ []) a.via a.listed; is = a.is; absent = a.absent }

by_last : (tuples : List TupleData) (t : TupleData) (moves : List Move) (m : Move) (u : TupleData) → IsAbsentBy tuples t (moves ++ m ∷ []) u → IsAbsentBy tuples t moves u ⊎ ((u ≡ act t m) × ¬ (Contains tuples u))
by_last tuples t moves m u a = elim (Contains-push_cases moves m a.via a.listed) [
  | inl c ↦ inl (record { via = a.via; listed = c; is = a.is; absent = a.absent })
  | inr e ↦ inr (a.is ∙ ap (act t) (sym e), a.absent)
]

-- the image has a place
pub found_by_kept : (tuples : List TupleData) (t : TupleData) (moves : List Move) (m : Move) (es fs : List TupleData) → Contains tuples (act t m) → FoundBy tuples t moves es fs → FoundBy tuples t (moves ++ m ∷ []) es fs
found_by_kept tuples t moves m es fs there f u = (
  λ c. elim ((f u).0 c) [
    | inl d ↦ inl d
    | inr a ↦ inr (by_more tuples t moves m u a)
  ],
  λ d. elim d [
    | inl c ↦ (f u).1 (inl c)
    | inr a ↦ elim (by_last tuples t moves m u a) [
      | inl b ↦ (f u).1 (inr b)
      | inr b ↦ absurd (b.1 (subst (Contains tuples) (sym b.0) there))
    ]
  ],
)

-- the image has none, and is found
pub found_by_more : (tuples : List TupleData) (t : TupleData) (moves : List Move) (m : Move) (es fs gs : List TupleData) → ¬ (Contains tuples (act t m)) → IsAdded fs (act t m) gs
    → FoundBy tuples t moves es fs → FoundBy tuples t (moves ++ m ∷ []) es gs
found_by_more tuples t moves m es fs gs absent added f u =
    let one : Contains gs u ↔ (Contains fs u ⊎ (act t m ≡ u)) = added_either fs gs (act t m) added u in (
      λ c. elim (one.0 c) [
        | inl d ↦ elim ((f u).0 d) [
          | inl e ↦ inl e
          | inr a ↦ inr (by_more tuples t moves m u a)
        ]
        | inr e ↦ inr (record { via = m; listed = Contains-push moves m; is = sym e; absent = subst (λ (x : TupleData). ¬ (Contains tuples x)) e absent })
      ],
      λ d. elim d [
        | inl c ↦ one.1 (inl ((f u).1 (inl c)))
        | inr a ↦ elim (by_last tuples t moves m u a) [
          | inl b ↦ one.1 (inl ((f u).1 (inr b)))
          | inr b ↦ one.1 (inr (sym b.0))
        ]
      ],
    )

pub found_by_all : (tuples : List TupleData) (t : TupleData) (moves : List Move) (es fs : List TupleData) → AreLevelMoves t moves → FoundBy tuples t moves es fs
    → (u : TupleData) → Contains fs u ↔ (Contains es u ⊎ IsAbsentImage tuples t u)
found_by_all tuples t moves es fs row f u = (
  λ c. elim ((f u).0 c) [
    | inl d ↦ inl d
    | inr a ↦ inr (record { via = a.via; moves = (row.exact a.via).0 a.listed; is = a.is; absent = a.absent })
  ],
  λ d. elim d [
    | inl c ↦ (f u).1 (inl c)
    | inr a ↦ (f u).1 (inr (record { via = a.via; listed = (row.exact a.via).1 a.moves; is = a.is; absent = a.absent }))
  ],
)

-- ---- the rows
-- The image of the tuple of one of these rows isn't among the tuples.
pub record IsAbsentOf (tuples : List TupleData) (rows : List Row) (u : TupleData) : Type 0 where
  pub row : Row
  pub listed : Contains rows row
  pub image : IsAbsentImage tuples (row_tuple row) u

-- Those that were found are the root, if it has no place, and the images of these rows that have none.
abbrev pub FoundOf : TupleData → List TupleData → List Row → List TupleData → Type 0
FoundOf root tuples rows fs = (u : TupleData) → Contains fs u ↔ (((u ≡ root) × ¬ (Contains tuples u)) ⊎ IsAbsentOf tuples rows u)

pub found_of_more : (root : TupleData) (tuples : List TupleData) (rows : List Row) (row : Row) (fs gs : List TupleData)
    → ((u : TupleData) → Contains gs u ↔ (Contains fs u ⊎ IsAbsentImage tuples (row_tuple row) u)) → FoundOf root tuples rows fs → FoundOf root tuples (rows ++ row ∷ []) gs
found_of_more root tuples rows row fs gs one f u = (
  λ c. elim ((one u).0 c) [
    | inl d ↦ elim ((f u).0 d) [
      | inl e ↦ inl e
      | inr a ↦ inr (record { row = a.row; listed = Contains-append_left rows (row ∷ []) a.row a.listed; image = a.image })
    ]
    | inr a ↦ inr (record { row = row; listed = Contains-push rows row; image = a })
  ],
  λ d. elim d [
    | inl e ↦ (one u).1 (inl ((f u).1 (inl e)))
    | inr a ↦ elim (Contains-push_cases rows row a.row a.listed) [
      | inl c ↦ (one u).1 (inl ((f u).1 (inr (record { row = a.row; listed = c; image = a.image }))))
      | inr e ↦ (one u).1 (inr (subst (λ (r : Row). IsAbsentImage tuples (row_tuple r) u) (sym e) a.image))
    ]
  ],
)

-- ---- what a look-up tells
pub absent_from : (tuples : List TupleData) (u : TupleData) (r : Option ℕ) (b : Bool) → MatchOption r (¬ (Contains tuples u)) (λ v. slice_get tuples v ≡ Some u) → is_some r ≡ not b → b ≡ true → ¬ (Contains tuples u)
absent_from tuples u None b absent g h = absent
absent_from tuples u (Some v) b at g h = absurd (true≢false (g ∙ ap not h))

pub there_from : (tuples : List TupleData) (u : TupleData) (r : Option ℕ) (b : Bool) → MatchOption r (¬ (Contains tuples u)) (λ v. slice_get tuples v ≡ Some u) → is_some r ≡ not b → b ≡ false → Contains tuples u
there_from tuples u None b absent g h = absurd (true≢false (sym (g ∙ ap not h)))
there_from tuples u (Some v) b at g h = (v, slice_get_within tuples v u at, get_or_from_slice_get tuples v u u at)

-- ---- the root
pub found_of_start : (root : TupleData) (tuples : List TupleData) (fs : List TupleData) → Contains tuples root → fs ≡ [] → FoundOf root tuples [] fs
found_of_start root tuples fs there e u = (
  λ c. absurd (contains_none u (subst (λ (x : List TupleData). Contains x u) e c)),
  λ d. elim d [
    | inl a ↦ absurd (a.1 (subst (Contains tuples) (sym a.0) there))
    | inr a ↦ absurd (contains_none a.row a.listed)
  ],
)

pub found_of_root : (root : TupleData) (tuples : List TupleData) (es fs : List TupleData) → ¬ (Contains tuples root) → es ≡ [] → IsAdded es root fs → FoundOf root tuples [] fs
found_of_root root tuples es fs absent e added u =
    let one : Contains fs u ↔ (Contains es u ⊎ (root ≡ u)) = added_either es fs root added u in (
      λ c. elim (one.0 c) [
        | inl d ↦ absurd (contains_none u (subst (λ (x : List TupleData). Contains x u) e d))
        | inr is ↦ inl (sym is, subst (λ (x : TupleData). ¬ (Contains tuples x)) is absent)
      ],
      λ d. elim d [
        | inl a ↦ one.1 (inr (sym a.0))
        | inr a ↦ absurd (contains_none a.row a.listed)
      ],
    )

-- ---- rows and their tuples
pub placed_has_row : (ts ps : List TupleData) (t : TupleData) → IsPlacing ts ps → Contains ps t → Contains ts t
placed_has_row ts ps t p c = (p.same t).0 c

pub row_has_place : (ts ps : List TupleData) (t : TupleData) → IsPlacing ts ps → Contains ts t → Contains ps t
row_has_place ts ps t p c = (p.same t).1 c

-- ---- what is missed
pub missed_rows : (root : TupleData) (ts : List TupleData) (ps : List TupleData) (u : TupleData) → IsPlacing ts ps → IsMissed root ps u → IsMissed root ts u
missed_rows root ts ps u p m = record {
  wanted = elim m.wanted [
    | inl e ↦ inl e
    | inr i ↦ inr (record { from = i.from; via = i.via; listed = placed_has_row ts ps i.from p i.listed; moves = i.moves; is = i.is })
  ];
  absent = λ c. m.absent (row_has_place ts ps u p c);
}

pub missed_found : (root : TupleData) (rows : List Row) (ps fs gs : List TupleData) (list : List TupleData) → IsPlacing (map row_tuple rows) ps → FoundOf root ps rows fs → IsPermutation fs gs → list ≡ gs
    → (u : TupleData) → Contains list u ↔ IsMissed root (map row_tuple rows) u
missed_found root rows ps fs gs list p f same is u =
    let ts : List TupleData = map row_tuple rows in (
      λ c. elim ((f u).0 (Contains-permutation gs fs u (IsPermutation-sym fs gs same) (subst (λ (l : List TupleData). Contains l u) is c))) [
        | inl a ↦ record { wanted = inl a.0; absent = λ d. a.1 (row_has_place ts ps u p d) }
        | inr a ↦ record {
          wanted = inr (record { from = row_tuple a.row; via = a.image.via; listed = map_contains row_tuple rows a.row a.listed; moves = a.image.moves; is = a.image.is });
          absent = λ d. a.image.absent (row_has_place ts ps u p d);
        }
      ],
      λ m. subst (λ (l : List TupleData). Contains l u) (sym is) (Contains-permutation fs gs u same ((f u).1 (elim m.wanted [
        | inl e ↦ inl (e, λ d. m.absent (placed_has_row ts ps u p d))
        | inr i ↦ (
            let r = contains_map row_tuple rows i.from i.listed in
            inr (record {
              row = r.0;
              listed = r.1;
              image = record {
                via = i.via;
                moves = subst (λ (t : TupleData). IsLevelMove t i.via) (sym r.2) i.moves;
                is = i.is ∙ ap (λ (t : TupleData). act t i.via) (sym r.2);
                absent = λ d. m.absent (placed_has_row ts ps u p d);
              };
            }))
      ]))),
    )

pub not_empty : (xs : List Tuple) (u : TupleData) → Contains (map (λ (t : Tuple). t.plain) xs) u → xs ≢ []
not_empty xs u c e = contains_none u (subst (λ (l : List Tuple). Contains (map (λ (t : Tuple). t.plain) l) u) e c)

pub within_level : (root : TupleData) (rows : List Row) (ps : List TupleData) → IsPlacing (map row_tuple rows) ps → All (λ r. InLevel root (row_tuple r)) rows → All (InLevel root) ps
within_level root rows ps p all = λ k d h.
    let r = contains_map row_tuple rows (get_or ps k d) (placed_has_row (map row_tuple rows) ps (get_or ps k d) p (Contains-get_or ps k d h)) in
    subst (InLevel root) r.2 (All-contains (λ x. InLevel root (row_tuple x)) rows r.0 all r.1)

-- ---- what sealing answers
pub closed_of : (root : TupleData) (rows : List Row) (ps : List TupleData) (level : LevelData) → IsPlacing (map row_tuple rows) ps → IsClosedLevel level → level.root ≡ root → level.tuples ≡ ps
    → IsClosedLevel level × (level.root ≡ root) × ((t : TupleData) → Contains level.tuples t ↔ Contains (map row_tuple rows) t)
closed_of root rows ps level p closed is copied = (
  closed,
  is,
  λ t. (
    λ c. placed_has_row (map row_tuple rows) ps t p (subst (λ (ts : List TupleData). Contains ts t) copied c),
    λ c. subst (λ (ts : List TupleData). Contains ts t) (sym copied) (row_has_place (map row_tuple rows) ps t p c),
  ),
)

pub missing_of : (root : TupleData) (rows : List Row) (ps : List TupleData) (list : List Tuple) → IsPlacing (map row_tuple rows) ps → IsStrictlySortedBy tuple_cmp (map (λ (t : Tuple). t.plain) list)
    → ((t : TupleData) → Contains (map (λ (u : Tuple). u.plain) list) t ↔ IsMissed root (map row_tuple rows) t) → (t : TupleData) × IsMissed root ps t
    → IsStrictlySortedBy tuple_cmp (map (λ (t : Tuple). t.plain) list) × (list ≢ []) × ((t : TupleData) → Contains (map (λ (u : Tuple). u.plain) list) t ↔ IsMissed root (map row_tuple rows) t)
missing_of root rows ps list p sorted exact some = (sorted, not_empty list some.0 ((exact some.0).1 (missed_rows root (map row_tuple rows) ps some.0 p some.1)), exact)
