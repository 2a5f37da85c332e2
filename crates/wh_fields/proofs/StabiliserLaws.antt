-- Edges of trees, generators and relators are read exactly from the fields that tell them: for the laws on stabilisers.
use Rattle.std.proofs.Common.{◌≡◌, ◌≢◌, ℕ, suc, ◌+◌, ◌-◌, ◌^◌, ◌<◌, ◌≤◌, ltb, Bool, true, false, cond, List, [], ◌∷◌, ◌++◌, length, get_or, drop, map, refl, sym, ap, ◌∙◌, subst, arith, None, Some}
use Rattle.std.specs.Prelude.{◌&&◌, decimal, codes}
use Rattle.std.specs.declared.option.Option.{Option}
use Rattle.std.specs.Option.{option_and_then}
use Rattle.std.specs.List.{All}
use Rattle.std.proofs.lemmas.List.Elements.{All-nil, All-cons, All-head, All-tail}
use Rattle.std.proofs.lemmas.Bool.{cond-true}
use Rattle.std.proofs.lemmas.Bool.Decides.{nat_tests}
use Rattle.std.proofs.lemmas.Option.{option_and_then_some}
use Rattle.wh_words.specs.Moves.{Move, Kind}
use Rattle.wh_lines.specs.Lines.{Field, are}
use Rattle.wh_lines.specs.Numbers.{number}
use Rattle.wh_lines.proofs.Equations.{split_fields, no_fields, some_is, are_is, are_back}
use Rattle.wh_lines.proofs.NumberLaws.{reads_numbers}
use Rattle.wh_fields.specs.MoveFields.{kind_in, move_with}
use Rattle.wh_fields.specs.StabiliserFields.{vertex_text, counting, number_in, TreeEdgeData, tree_edge_in, generator_in, word_in, moves_before, RelatorLineData, with_word, relator_in}
use Rattle.wh_fields.specs.Laws.{IsCounting, IsMoveField, AreMoveFields, IsTreeEdgeLine, IsGeneratorLine, IsRelatorLine, ReadsTreeEdges, ReadsGenerators, ReadsRelators}
use Rattle.wh_fields.specs.Laws.IsMoveField.{a_swap, an_inversion, a_cut}
use Rattle.wh_fields.proofs.MoveLaws.{reads_moves}

-- ---- numbers
counting_told : (o : Option ℕ) (k : ℕ) → counting o ≡ Some k → (o ≡ Some k) × IsCounting k
counting_told None k e = absurd (cc)
counting_told (Some j) k e = by (ltb 0 j && ltb j (2 ^ 32)) refl e
  where
    by : (t : Bool) → (ltb 0 j && ltb j (2 ^ 32)) ≡ t → cond t (Some j) None ≡ Some k → (◌≡◌ {A = Option ℕ} (Some j) (Some k)) × IsCounting k
    by true t e =
        let same : j ≡ k = some_is j k e in
        let some : 0 < j = grind (arith, nat_tests) in
        let low : j < 2 ^ 32 = grind (arith, nat_tests) in
        (e, (omega (arith, same, some), omega (arith, same, low)))
    by false t e = absurd (cc)

pub number_told : (bytes : List ℕ) (k : ℕ) → number_in bytes ≡ Some k → (bytes ≡ decimal k) × IsCounting k
number_told bytes k e =
    let a = counting_told (number bytes) k e in
    (((reads_numbers bytes k).0 a.0).0, a.1)

pub number_back : (bytes : List ℕ) (k : ℕ) → bytes ≡ decimal k → IsCounting k → number_in bytes ≡ Some k
number_back bytes k e is =
    ap counting ((reads_numbers bytes k).1 (e, omega (arith, is.1)))
    ∙ cond-true (ltb 0 k && ltb k (2 ^ 32)) (Some k) None (grind (arith, nat_tests, is.0, is.1))

-- A vertex is one less than its number.
vertex_told : (bytes : List ℕ) (k : ℕ) → number_in bytes ≡ Some k → (bytes ≡ vertex_text (k - 1)) × IsCounting (k - 1 + 1)
vertex_told bytes k e =
    let a = number_told bytes k e in
    let same : k ≡ k - 1 + 1 = omega (arith, a.1.0) in
    (a.0 ∙ ap decimal same, subst IsCounting same a.1)

vertex_back : (bytes : List ℕ) (v : ℕ) → bytes ≡ vertex_text v → IsCounting (v + 1) → number_in bytes ≡ Some (v + 1)
vertex_back bytes v e is = number_back bytes (v + 1) e is

-- ---- moves
move_told : (n : ℕ) (bytes : List ℕ) (m : Move) → n ≤ 26 → move_with n (kind_in n bytes) ≡ Some m → (m.rank ≡ n) × IsMoveField n bytes m.kind
move_told n bytes m h e = by (kind_in n bytes) refl e
  where
    by : (o : Option Kind) → kind_in n bytes ≡ o → move_with n o ≡ Some m → (m.rank ≡ n) × IsMoveField n bytes m.kind
    by None k e = absurd (cc)
    by (Some kind) k e =
        let same : record { rank = n; kind = kind } ≡ m = some_is (record { rank = n; kind = kind }) m e in
        (sym (ap (λ (x : Move). x.rank) same), subst (λ (x : Move). IsMoveField n bytes x.kind) same ((reads_moves n bytes kind h).0 k))

move_back : (n : ℕ) (bytes : List ℕ) (m : Move) → n ≤ 26 → m.rank ≡ n → IsMoveField n bytes m.kind → move_with n (kind_in n bytes) ≡ Some m
move_back n bytes m h rank is = ap (move_with n) ((reads_moves n bytes m.kind h).1 is) ∙ ap (λ (r : ℕ). Some (record { rank = r; kind = m.kind })) (sym rank)

-- ---- edges of trees
tree_edge_is : (n : ℕ) (fs : List Field) (told : TreeEdgeData) → n ≤ 26 → tree_edge_in n fs ≡ Some told → IsTreeEdgeLine n (map (λ f. f.bytes) fs) told
unfolding tree_edge_in
tree_edge_is n [] told h e = absurd (cc)
tree_edge_is n (f ∷ []) told h e = absurd (cc)
tree_edge_is n (f ∷ g ∷ []) told h e = absurd (cc)
tree_edge_is n (f ∷ g ∷ k ∷ i ∷ fs) told h e = absurd (cc)
tree_edge_is n (f ∷ g ∷ k ∷ []) told h e =
    option_and_then_some (λ v. option_and_then (λ p. option_and_then (λ m. Some (record { head = v; parent = p - 1; move = m })) (move_with n (kind_in n k.bytes))) (number_in g.bytes)) (number_in f.bytes) told e
    (λ v first rest. option_and_then_some (λ p. option_and_then (λ m. Some (record { head = v; parent = p - 1; move = m })) (move_with n (kind_in n k.bytes))) (number_in g.bytes) told rest
    (λ p second later. option_and_then_some (λ m. Some (record { head = v; parent = p - 1; move = m })) (move_with n (kind_in n k.bytes)) told later
    (λ m third made.
    let head = number_told f.bytes v first in
    let parent = vertex_told g.bytes p second in
    let move = move_told n k.bytes m h third in
    subst (IsTreeEdgeLine n (f.bytes ∷ g.bytes ∷ k.bytes ∷ [])) (some_is (record { head = v; parent = p - 1; move = m }) told made) (record {
      number = head.1;
      parent = parent.1;
      rank = move.0;
      field = k.bytes;
      move = move.1;
      spelled = ap (λ w. w ∷ g.bytes ∷ k.bytes ∷ []) head.0 ∙ ap (λ w. decimal v ∷ w ∷ k.bytes ∷ []) parent.0;
    }))))

tree_edge_from : (n : ℕ) (told : TreeEdgeData) (f g k : Field) → number_in f.bytes ≡ Some told.head → number_in g.bytes ≡ Some (told.parent + 1) → move_with n (kind_in n k.bytes) ≡ Some told.move → tree_edge_in n (f ∷ g ∷ k ∷ []) ≡ Some told
unfolding tree_edge_in
tree_edge_from n told f g k a b c =
    let made : ℕ → ℕ → Option Move → Option TreeEdgeData = λ v p. option_and_then (λ m. Some (record { head = v; parent = p - 1; move = m })) in
    let back : told.parent + 1 - 1 ≡ told.parent = omega arith in
    ap (option_and_then (λ v. option_and_then (λ p. made v p (move_with n (kind_in n k.bytes))) (number_in g.bytes))) a
    ∙ ap (option_and_then (λ p. made told.head p (move_with n (kind_in n k.bytes)))) b
    ∙ ap (made told.head (told.parent + 1)) c
    ∙ ap (λ (p : ℕ). Some (record { head = told.head; parent = p; move = told.move })) back

tree_edge_back : (n : ℕ) (fs : List Field) (told : TreeEdgeData) → n ≤ 26 → IsTreeEdgeLine n (map (λ f. f.bytes) fs) told → tree_edge_in n fs ≡ Some told
tree_edge_back n fs told h is =
    let s = split_fields fs (decimal told.head) (vertex_text told.parent ∷ is.field ∷ []) is.spelled in
    let t = split_fields s.1 (vertex_text told.parent) (is.field ∷ []) s.4 in
    let u = split_fields t.1 is.field [] t.4 in
    ap (tree_edge_in n) (s.2 ∙ ap (λ gs. s.0 ∷ gs) t.2 ∙ ap (λ gs. s.0 ∷ t.0 ∷ gs) u.2 ∙ ap (λ gs. s.0 ∷ t.0 ∷ u.0 ∷ gs) (no_fields u.1 u.4))
    ∙ tree_edge_from n told s.0 t.0 u.0 (number_back s.0.bytes told.head s.3 is.number) (vertex_back t.0.bytes told.parent t.3 is.parent)
    (move_back n u.0.bytes told.move h is.rank (subst (λ (w : List ℕ). IsMoveField n w told.move.kind) (sym u.3) is.move))

pub reads_tree_edges : ReadsTreeEdges
reads_tree_edges n fs told h = (tree_edge_is n fs told h, tree_edge_back n fs told h)

-- ---- generators
generator_is : (n : ℕ) (fs : List Field) (told : ℕ × Move) → n ≤ 26 → generator_in n fs ≡ Some told → IsGeneratorLine n (map (λ f. f.bytes) fs) told
unfolding generator_in
generator_is n [] told h e = absurd (cc)
generator_is n (f ∷ []) told h e = absurd (cc)
generator_is n (f ∷ g ∷ k ∷ fs) told h e = absurd (cc)
generator_is n (f ∷ g ∷ []) told h e =
    option_and_then_some (λ v. option_and_then (λ m. Some (v - 1, m)) (move_with n (kind_in n g.bytes))) (number_in f.bytes) told e
    (λ v first rest. option_and_then_some (λ m. Some (v - 1, m)) (move_with n (kind_in n g.bytes)) told rest
    (λ m second made.
    let vertex = vertex_told f.bytes v first in
    let move = move_told n g.bytes m h second in
    subst (IsGeneratorLine n (f.bytes ∷ g.bytes ∷ [])) (some_is (v - 1, m) told made) (record {
      vertex = vertex.1;
      rank = move.0;
      field = g.bytes;
      move = move.1;
      spelled = ap (λ w. w ∷ g.bytes ∷ []) vertex.0;
    })))

generator_from : (n : ℕ) (told : ℕ × Move) (f g : Field) → number_in f.bytes ≡ Some (told.0 + 1) → move_with n (kind_in n g.bytes) ≡ Some told.1 → generator_in n (f ∷ g ∷ []) ≡ Some told
unfolding generator_in
generator_from n told f g a b =
    let made : ℕ → Option Move → Option (ℕ × Move) = λ v. option_and_then (λ m. Some (v - 1, m)) in
    let back : told.0 + 1 - 1 ≡ told.0 = omega arith in
    ap (option_and_then (λ v. made v (move_with n (kind_in n g.bytes)))) a
    ∙ ap (made (told.0 + 1)) b
    ∙ ap (λ (v : ℕ). Some (v, told.1)) back

generator_back : (n : ℕ) (fs : List Field) (told : ℕ × Move) → n ≤ 26 → IsGeneratorLine n (map (λ f. f.bytes) fs) told → generator_in n fs ≡ Some told
generator_back n fs told h is =
    let s = split_fields fs (vertex_text told.0) (is.field ∷ []) is.spelled in
    let t = split_fields s.1 is.field [] s.4 in
    ap (generator_in n) (s.2 ∙ ap (λ gs. s.0 ∷ gs) t.2 ∙ ap (λ gs. s.0 ∷ t.0 ∷ gs) (no_fields t.1 t.4))
    ∙ generator_from n told s.0 t.0 (vertex_back s.0.bytes told.0 s.3 is.vertex) (move_back n t.0.bytes told.1 h is.rank (subst (λ (w : List ℕ). IsMoveField n w told.1.kind) (sym t.3) is.move))

pub reads_generators : ReadsGenerators
reads_generators n fs told h = (generator_is n fs told h, generator_back n fs told h)

-- ---- numbers of a relator
word_told : (fs : List Field) (ks : List ℕ) → word_in fs ≡ Some ks → (map (λ f. f.bytes) fs ≡ map decimal ks) × All IsCounting ks
unfolding word_in
word_told [] ks e = subst (λ (js : List ℕ). ([] ≡ map decimal js) × All IsCounting js) (some_is [] ks e) (refl, All-nil IsCounting)
word_told (f ∷ fs) ks e =
    option_and_then_some (λ k. option_and_then (λ js. Some (k ∷ js)) (word_in fs)) (number_in f.bytes) ks e
    (λ k first rest. option_and_then_some (λ js. Some (k ∷ js)) (word_in fs) ks rest
    (λ js later made.
    let here = number_told f.bytes k first in
    let r = word_told fs js later in
    subst (λ (is : List ℕ). (f.bytes ∷ map (λ (g : Field). g.bytes) fs ≡ map decimal is) × All IsCounting is) (some_is (k ∷ js) ks made)
    (ap (λ w. w ∷ map (λ (g : Field). g.bytes) fs) here.0 ∙ ap (λ ws. decimal k ∷ ws) r.0, All-cons IsCounting k js here.1 r.1)))

word_back : (fs : List Field) (ks : List ℕ) → map (λ f. f.bytes) fs ≡ map decimal ks → All IsCounting ks → word_in fs ≡ Some ks
unfolding word_in
word_back [] [] e all = refl
word_back [] (k ∷ ks) e all = absurd (cc)
word_back (f ∷ fs) [] e all = absurd (cc)
word_back (f ∷ fs) (k ∷ ks) e all =
    let here : f.bytes ≡ decimal k = (cc) in
    let later : map (λ (g : Field). g.bytes) fs ≡ map decimal ks = (cc) in
    ap (option_and_then (λ j. option_and_then (λ js. Some (j ∷ js)) (word_in fs))) (number_back f.bytes k here (All-head IsCounting k ks all))
    ∙ ap (option_and_then (λ js. Some (k ∷ js))) (word_back fs ks later (All-tail IsCounting k ks all))

-- ---- moves of a relator
record WayFields (n : ℕ) (fs : List Field) (ms : List Move) : Type 0 where
  fields : List (List ℕ)
  moves : AreMoveFields n fields ms
  spelled : map (λ f. f.bytes) fs ≡ fields ++ codes "=" ∷ map (λ f. f.bytes) (drop (length ms + 1) fs)

way_cons : (n : ℕ) (f : Field) (fs : List Field) (ms : List Move) (t : Bool) → n ≤ 26 → are f.bytes (codes "=") ≡ t → ((ks : List Move) → moves_before n fs ≡ Some ks → WayFields n fs ks) →
    cond t (Some []) (option_and_then (λ m. option_and_then (λ ks. Some (m ∷ ks)) (moves_before n fs)) (move_with n (kind_in n f.bytes))) ≡ Some ms → WayFields n (f ∷ fs) ms
way_cons n f fs ms true h sign rest e =
    subst (WayFields n (f ∷ fs)) (some_is [] ms e) (record { fields = []; moves = tt; spelled = ap (λ w. w ∷ map (λ (g : Field). g.bytes) fs) (are_is f.bytes (codes "=") sign) })
way_cons n f fs ms false h sign rest e =
    option_and_then_some (λ m. option_and_then (λ ks. Some (m ∷ ks)) (moves_before n fs)) (move_with n (kind_in n f.bytes)) ms e
    (λ m first later. option_and_then_some (λ ks. Some (m ∷ ks)) (moves_before n fs) ms later
    (λ ks behind made.
    let move = move_told n f.bytes m h first in
    let r : WayFields n fs ks = rest ks behind in
    let next : suc (length ks + 1) ≡ length (m ∷ ks) + 1 = omega arith in
    subst (WayFields n (f ∷ fs)) (some_is (m ∷ ks) ms made) (record {
      fields = f.bytes ∷ r.fields;
      moves = (move.0, move.1, r.moves);
      spelled = ap (λ ws. f.bytes ∷ ws) r.spelled ∙ ap (λ (k : ℕ). f.bytes ∷ r.fields ++ codes "=" ∷ map (λ (g : Field). g.bytes) (drop k (f ∷ fs))) next;
    })))

way_told : (n : ℕ) (fs : List Field) (ms : List Move) → n ≤ 26 → moves_before n fs ≡ Some ms → WayFields n fs ms
unfolding moves_before
way_told n [] ms h e = absurd (cc)
way_told n (f ∷ fs) ms h e = way_cons n f fs ms (are f.bytes (codes "=")) h refl (λ ks k. way_told n fs ks h k) e

-- The field of a move isn't `=`.
not_sign : (n : ℕ) (w : List ℕ) (kind : Kind) → IsMoveField n w kind → are w (codes "=") ≡ false
not_sign n w kind is = by (are w (codes "=")) refl
  where
    differs : IsMoveField n w kind → w ≡ codes "=" → ⊥
    differs (a_swap k least below spelled same) e = omega (arith, ap (λ l. get_or l 0 0) (sym spelled ∙ e))
    differs (an_inversion k least below spelled same) e = omega (arith, ap (λ l. get_or l 0 0) (sym spelled ∙ e))
    differs (a_cut a xs within rank rise holds omits spelled same) e = omega (arith, ap length (sym spelled ∙ e))

    by : (t : Bool) → are w (codes "=") ≡ t → are w (codes "=") ≡ false
    by false t = t
    by true t = absurd (differs is (are_is w (codes "=") t))

record ReadsWay (n : ℕ) (fs : List Field) (ms : List Move) (rest : List (List ℕ)) : Type 0 where
  moves : moves_before n fs ≡ Some ms
  behind : map (λ f. f.bytes) (drop (length ms + 1) fs) ≡ rest

way_back : (n : ℕ) (fs : List Field) (fields : List (List ℕ)) (ms : List Move) (rest : List (List ℕ)) → n ≤ 26 → map (λ f. f.bytes) fs ≡ fields ++ codes "=" ∷ rest → AreMoveFields n fields ms → ReadsWay n fs ms rest
unfolding moves_before
way_back n [] [] ms rest h e are_moves = absurd (cc)
way_back n [] (w ∷ ws) ms rest h e are_moves = absurd (cc)
way_back n (f ∷ fs) [] [] rest h e are_moves =
    let here : f.bytes ≡ codes "=" = (cc) in
    let later : map (λ (g : Field). g.bytes) fs ≡ rest = (cc) in
    record {
      moves = ap (λ b. cond b (Some []) (option_and_then (λ m. option_and_then (λ ks. Some (m ∷ ks)) (moves_before n fs)) (move_with n (kind_in n f.bytes)))) (are_back f.bytes (codes "=") here);
      behind = later;
    }
way_back n (f ∷ fs) [] (m ∷ ms) rest h e are_moves = absurd are_moves
way_back n (f ∷ fs) (w ∷ ws) [] rest h e are_moves = absurd are_moves
way_back n (f ∷ fs) (w ∷ ws) (m ∷ ms) rest h e are_moves =
    let here : f.bytes ≡ w = (cc) in
    let later : map (λ (g : Field). g.bytes) fs ≡ ws ++ codes "=" ∷ rest = (cc) in
    let is : IsMoveField n f.bytes m.kind = subst (λ (v : List ℕ). IsMoveField n v m.kind) (sym here) are_moves.1 in
    let r : ReadsWay n fs ms rest = way_back n fs ws ms rest h later are_moves.2 in
    let next : length (m ∷ ms) + 1 ≡ suc (length ms + 1) = omega arith in
    record {
      moves = ap (λ b. cond b (Some []) (option_and_then (λ m. option_and_then (λ ks. Some (m ∷ ks)) (moves_before n fs)) (move_with n (kind_in n f.bytes)))) (not_sign n f.bytes m.kind is)
          ∙ ap (option_and_then (λ m. option_and_then (λ ks. Some (m ∷ ks)) (moves_before n fs))) (move_back n f.bytes m h are_moves.0 is)
          ∙ ap (option_and_then (λ ks. Some (m ∷ ks))) r.moves;
      behind = ap (λ (k : ℕ). map (λ (g : Field). g.bytes) (drop k (f ∷ fs))) next ∙ r.behind;
    }

-- ---- relators
with_word_told : (n v : ℕ) (ms : List Move) (f : Field) (fs : List Field) (told : RelatorLineData) → IsCounting (v + 1) → f.bytes ≡ vertex_text v → WayFields n fs ms → with_word v ms fs ≡ Some told →
    IsRelatorLine n (f.bytes ∷ map (λ g. g.bytes) fs) told
with_word_told n v [] f fs told is vertex way e = absurd (cc)
with_word_told n v (m ∷ ms) f fs told is vertex way e =
    option_and_then_some (λ ks. Some (record { at = v; moves = m ∷ ms; word = ks })) (word_in (drop (length (m ∷ ms) + 1) fs)) told e
    (λ ks read made.
    let numbers = word_told (drop (length (m ∷ ms) + 1) fs) ks read in
    subst (IsRelatorLine n (f.bytes ∷ map (λ (g : Field). g.bytes) fs)) (some_is (record { at = v; moves = m ∷ ms; word = ks }) told made) (record {
      vertex = is;
      fields = way.fields;
      moves = way.moves;
      some = λ none. (cc);
      numbers = numbers.1;
      spelled = ap (λ w. w ∷ map (λ (g : Field). g.bytes) fs) vertex ∙ ap (λ ws. vertex_text v ∷ ws) way.spelled ∙ ap (λ ws. vertex_text v ∷ way.fields ++ codes "=" ∷ ws) numbers.0;
    }))

relator_is : (n : ℕ) (fs : List Field) (told : RelatorLineData) → n ≤ 26 → relator_in n fs ≡ Some told → IsRelatorLine n (map (λ f. f.bytes) fs) told
unfolding relator_in
relator_is n [] told h e = absurd (cc)
relator_is n (f ∷ fs) told h e =
    option_and_then_some (λ v. option_and_then (λ ms. with_word (v - 1) ms fs) (moves_before n fs)) (number_in f.bytes) told e
    (λ v first rest. option_and_then_some (λ ms. with_word (v - 1) ms fs) (moves_before n fs) told rest
    (λ ms way later.
    let vertex = vertex_told f.bytes v first in
    with_word_told n (v - 1) ms f fs told vertex.1 vertex.0 (way_told n fs ms h way) later))

with_word_back : (fs : List Field) (told : RelatorLineData) → told.moves ≢ [] → word_in (drop (length told.moves + 1) fs) ≡ Some told.word → with_word told.at told.moves fs ≡ Some told
with_word_back fs told some read = by told.moves refl
  where
    by : (ms : List Move) → told.moves ≡ ms → with_word told.at told.moves fs ≡ Some told
    by [] e = absurd (some e)
    by (m ∷ ms) e =
        ap (λ (ks : List Move). with_word told.at ks fs) e
        ∙ ap (option_and_then (λ ks. Some (record { at = told.at; moves = m ∷ ms; word = ks }))) (ap (λ (ks : List Move). word_in (drop (length ks + 1) fs)) (sym e) ∙ read)
        ∙ ap (λ (ks : List Move). Some (record { at = told.at; moves = ks; word = told.word })) (sym e)

relator_from : (n : ℕ) (told : RelatorLineData) (f : Field) (fs : List Field) → number_in f.bytes ≡ Some (told.at + 1) → moves_before n fs ≡ Some told.moves → with_word told.at told.moves fs ≡ Some told → relator_in n (f ∷ fs) ≡ Some told
unfolding relator_in
relator_from n told f fs a b c =
    let back : told.at + 1 - 1 ≡ told.at = omega arith in
    ap (option_and_then (λ v. option_and_then (λ ms. with_word (v - 1) ms fs) (moves_before n fs))) a
    ∙ ap (option_and_then (λ ms. with_word (told.at + 1 - 1) ms fs)) b
    ∙ ap (λ (v : ℕ). with_word v told.moves fs) back ∙ c

relator_back : (n : ℕ) (fs : List Field) (told : RelatorLineData) → n ≤ 26 → IsRelatorLine n (map (λ f. f.bytes) fs) told → relator_in n fs ≡ Some told
relator_back n fs told h is =
    let s = split_fields fs (vertex_text told.at) (is.fields ++ codes "=" ∷ map decimal told.word) is.spelled in
    let way : ReadsWay n s.1 told.moves (map decimal told.word) = way_back n s.1 is.fields told.moves (map decimal told.word) h s.4 is.moves in
    ap (relator_in n) s.2
    ∙ relator_from n told s.0 s.1 (vertex_back s.0.bytes told.at s.3 is.vertex) way.moves
    (with_word_back s.1 told is.some (word_back (drop (length told.moves + 1) s.1) told.word way.behind is.numbers))

pub reads_relators : ReadsRelators
reads_relators n fs told h = (relator_is n fs told h, relator_back n fs told h)
