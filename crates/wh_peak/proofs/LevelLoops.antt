-- Walks in a level as products of loops.
use Rattle.std.proofs.Common.{◌≡◌, ◌≢◌, ℕ, List, [], ◌∷◌, refl, sym, ap, subst, inl, inr, ◌∙◌, arith, append_assoc, append-nil}
use Rattle.std.proofs.lemmas.Bool.{true≢false}
use Rattle.std.proofs.lemmas.Cmp.{tied_itself}
use Rattle.std.specs.Prelude.{◌++◌, ◌⊎◌}
use Rattle.std.specs.Cmp.Lexicographic.{slice_cmp, lists_total}
use Rattle.std.specs.Ordering.{is_lt, is_gt}
use Rattle.std.specs.declared.cmp.Ordering.{Ordering}
use Rattle.std.specs.declared.cmp.Ordering.TheVariants.{Less, Equal, Greater}
use Rattle.wh_words.specs.Tuples.{TupleData, IsTuple}
use Rattle.wh_words.specs.Moves.{Kind, Move, IsIdentityCut, move_cmp}
use Rattle.wh_words.specs.Moves.Kind.{swap, invert, cut}
use Rattle.wh_words.specs.MoveLists.{inverse_list}
use Rattle.wh_words.specs.Images.{image}
use Rattle.wh_words.specs.Action.{act, act_all}
use Rattle.wh_words.specs.Levels.{IsLevelMove, Reaches, InLevel, KeepsLength}
use Rattle.wh_words.specs.Levels.Reaches.{here, step}
use Rattle.wh_words.proofs.ImageLetters.{act_tuple}
use Rattle.wh_moves.proofs.IdentityCuts.{identity_image, identity_acts, identity_or_not}
use Rattle.wh_words.specs.Levels.KeepsLength.{done as kept_done, step as kept_step}
use Rattle.wh_moves.specs.MoveOrders.{move_cmp_total, same_moves}
use Rattle.wh_moves.proofs.Walks.{in_level_pushed, reached_rank}
use Rattle.wh_peak.specs.Equivalence.{IsMoveOfRank, AreMovesOfRank}
use Rattle.wh_peak.specs.Stabilisers.{ArePaths, IsLoop, IsProduct}
use Rattle.wh_peak.specs.Stabilisers.IsProduct.{none, more}
use Rattle.wh_peak.proofs.FreeWords.{run}
use Rattle.wh_peak.proofs.MovesOfRank.{none_of_rank, more_of_rank, both_of_rank, inverse_of_rank}
use Rattle.wh_peak.proofs.ShortestTuples.{walk-of_rank}
use Rattle.wh_peak.proofs.SameComposites.{AgreeOn, agree-refl, agree-of, agree-sym, agree-then, agree-before, agree-after, drop-redone}

-- ---- identity cuts go
identity_goes : (n : ℕ) (k : Kind) → IsIdentityCut k → (x : ℕ) → image k x ≡ x ∷ []
identity_goes n (swap j) h x = absurd h
identity_goes n (invert j) h x = absurd h
identity_goes n (cut a set) h x = ap (λ s. image (cut a s) x) h ∙ identity_image a x

pub identity-same : (n : ℕ) (m : Move) → IsIdentityCut m.kind → AgreeOn n (m ∷ []) []
identity-same n m h x l r = ap (λ w. run w r) (append-nil (image m.kind x) ∙ identity_goes n m.kind h x)

pub kept-of_rank : {t : TupleData} {ms : List Move} → KeepsLength t ms → AreMovesOfRank t.rank ms
kept-of_rank {t} kept_done = none_of_rank t.rank
kept-of_rank {t} (kept_step {m = m} {ms = ms} valid rank kept rest) = more_of_rank t.rank m ms (record { valid = valid; rank = rank }) (kept-of_rank rest)

-- A list that keeps the length is the same automorphism as a walk.
pub record IsWalked (t : TupleData) (ms : List Move) : Type 0 where
  pub moves : List Move
  pub leads : Reaches t moves (act_all t ms)
  pub same : AgreeOn t.rank ms moves

pub walked : {t : TupleData} {ms : List Move} → IsTuple t → KeepsLength t ms → IsWalked t ms
walked {t} is kept_done = record { moves = []; leads = here; same = agree-refl t.rank [] }
walked {t} is (kept_step {m = m} {ms = ms} valid rank kept rest) =
    let w : IsWalked (act t m) ms = walked (act_tuple t m is valid (sym rank) (omega (arith, kept, is.short))) rest in
    let first : AreMovesOfRank t.rank (m ∷ []) = more_of_rank t.rank m [] (record { valid = valid; rank = rank }) (none_of_rank t.rank) in
    elim (identity_or_not m.kind) [
      | inl h ↦ record {
        moves = w.moves;
        leads = subst (λ (s : TupleData). Reaches s w.moves (act_all (act t m) ms)) (identity_acts t m is h) w.leads;
        same = agree-then t.rank (m ∷ ms) ms w.moves (agree-after t.rank (m ∷ []) [] ms (none_of_rank t.rank) (kept-of_rank rest) (identity-same t.rank m h)) w.same;
      }
      | inr k ↦ record {
        moves = m ∷ w.moves;
        leads = step (record { valid = valid; rank = rank; kept = kept; moves = k }) w.leads;
        same = agree-before t.rank (m ∷ []) ms w.moves first (kept-of_rank rest) w.same;
      }
    ]

-- ---- lists of moves can be told apart
same_or_not : (ms ns : List Move) → (ms ≡ ns) ⊎ (ms ≢ ns)
same_or_not ms ns = go (slice_cmp move_cmp ms ns) refl
  where
    apart : (o : Ordering) → slice_cmp move_cmp ms ns ≡ o → o ≢ Equal → ms ≢ ns
    apart o e n q = n (sym e ∙ (ap (slice_cmp move_cmp ms) (sym q) ∙ tied_itself (lists_total move_cmp_total) ms))

    go : (o : Ordering) → slice_cmp move_cmp ms ns ≡ o → (ms ≡ ns) ⊎ (ms ≢ ns)
    go Less e = inr (apart Less e (λ q. true≢false (ap is_lt q)))
    go Equal e = inl (same_moves ms ns e)
    go Greater e = inr (apart Greater e (λ q. true≢false (ap is_gt q)))

-- ---- products
-- A product of loops that is a list's automorphism.
pub record IsLooped (root : TupleData) (path : TupleData → List Move) (n : ℕ) (is_it : List Move → Type 0) : Type 0 where
  pub loops : List Move
  pub product : IsProduct (IsLoop root path) loops
  pub of_rank : AreMovesOfRank n loops
  pub same : is_it loops

module _ (root : TupleData) (path : TupleData → List Move) (paths : ArePaths root path) where
  pub level-rank : (t : TupleData) → InLevel root t → t.rank ≡ root.rank
  level-rank t l = reached_rank l.1

  pub path-of_rank : (t : TupleData) → InLevel root t → AreMovesOfRank root.rank (path t)
  path-of_rank t l = walk-of_rank (paths.leads t l)

  edge-of_rank : (t : TupleData) (m : Move) → InLevel root t → IsLevelMove t m → IsMoveOfRank root.rank m
  edge-of_rank t m l e = record { valid = e.valid; rank = e.rank ∙ level-rank t l }

  pub loop-of_rank : (ms : List Move) → IsLoop root path ms → AreMovesOfRank root.rank ms
  loop-of_rank ms l =
      let end : InLevel root (act l.start l.move) = in_level_pushed l.within l.edge in
      subst (AreMovesOfRank root.rank) (sym l.is)
      (both_of_rank root.rank (path l.start) (l.move ∷ inverse_list (path (act l.start l.move))) (path-of_rank l.start l.within)
      (more_of_rank root.rank l.move (inverse_list (path (act l.start l.move))) (edge-of_rank l.start l.move l.within l.edge)
      (inverse_of_rank root.rank (path (act l.start l.move)) (path-of_rank (act l.start l.move) end))))

  -- A move may go by way of the root.
  pub through : (v : TupleData) (m : Move) (ms : List Move) → AreMovesOfRank root.rank (path v) → AreMovesOfRank root.rank (m ∷ []) → AreMovesOfRank root.rank (path (act v m)) → AreMovesOfRank root.rank ms →
      AgreeOn root.rank (path v ++ m ∷ ms) ((path v ++ m ∷ inverse_list (path (act v m))) ++ (path (act v m) ++ ms))
  through v m ms hv one hu hms =
      let inside : AgreeOn root.rank (m ∷ ms) (m ∷ (inverse_list (path (act v m)) ++ (path (act v m) ++ ms))) =
      agree-before root.rank (m ∷ []) ms (inverse_list (path (act v m)) ++ (path (act v m) ++ ms)) one hms
      (agree-sym root.rank (inverse_list (path (act v m)) ++ (path (act v m) ++ ms)) ms (drop-redone root.rank (path (act v m)) ms hu hms)) in
      agree-then root.rank (path v ++ m ∷ ms) (path v ++ m ∷ (inverse_list (path (act v m)) ++ (path (act v m) ++ ms))) ((path v ++ m ∷ inverse_list (path (act v m))) ++ (path (act v m) ++ ms))
      (agree-before root.rank (path v) (m ∷ ms) (m ∷ (inverse_list (path (act v m)) ++ (path (act v m) ++ ms))) hv (both_of_rank root.rank (m ∷ []) ms one hms) inside)
      (agree-of root.rank (path v ++ m ∷ (inverse_list (path (act v m)) ++ (path (act v m) ++ ms))) ((path v ++ m ∷ inverse_list (path (act v m))) ++ (path (act v m) ++ ms))
      (sym (append_assoc (path v) (m ∷ inverse_list (path (act v m))) (path (act v m) ++ ms))))

  -- A path and then a walk is a product of loops and then the path to the end.
  pub looped : {v w : TupleData} {ms : List Move} → InLevel root v → Reaches v ms w → IsLooped root path root.rank (λ loops. AgreeOn root.rank (path v ++ ms) (loops ++ path w))
  looped {v} l here = record { loops = []; product = none; of_rank = none_of_rank root.rank; same = agree-of root.rank (path v ++ []) (path v) (append-nil (path v)) }
  looped {v} {w} l (step {m = m} {ms = ms} edge r) =
      let lu : InLevel root (act v m) = in_level_pushed l edge in
      let rest : IsLooped root path root.rank (λ loops. AgreeOn root.rank (path (act v m) ++ ms) (loops ++ path w)) = looped lu r in
      let one : AreMovesOfRank root.rank (m ∷ []) = more_of_rank root.rank m [] (edge-of_rank v m l edge) (none_of_rank root.rank) in
      let hv : AreMovesOfRank root.rank (path v) = path-of_rank v l in
      let hu : AreMovesOfRank root.rank (path (act v m)) = path-of_rank (act v m) lu in
      let hms : AreMovesOfRank root.rank ms = subst (λ (j : ℕ). AreMovesOfRank j ms) (level-rank (act v m) lu) (walk-of_rank r) in
      elim (same_or_not (path (act v m)) (path v ++ m ∷ [])) [
        | inl e ↦ record {
          loops = rest.loops;
          product = rest.product;
          of_rank = rest.of_rank;
          same = agree-then root.rank (path v ++ m ∷ ms) (path (act v m) ++ ms) (rest.loops ++ path w)
              (agree-of root.rank (path v ++ m ∷ ms) (path (act v m) ++ ms) (sym (ap (λ (p : List Move). p ++ ms) e ∙ append_assoc (path v) (m ∷ []) ms)))
              rest.same;
        }
        | inr k ↦ (
            let is_loop : IsLoop root path (path v ++ m ∷ inverse_list (path (act v m))) =
            record { start = v; move = m; within = l; edge = edge; off_tree = k; is = refl } in
            let hloop : AreMovesOfRank root.rank (path v ++ m ∷ inverse_list (path (act v m))) = loop-of_rank (path v ++ m ∷ inverse_list (path (act v m))) is_loop in
            record {
              loops = (path v ++ m ∷ inverse_list (path (act v m))) ++ rest.loops;
              product = more is_loop rest.product;
              of_rank = both_of_rank root.rank (path v ++ m ∷ inverse_list (path (act v m))) rest.loops hloop rest.of_rank;
              same = agree-then root.rank (path v ++ m ∷ ms) ((path v ++ m ∷ inverse_list (path (act v m))) ++ (path (act v m) ++ ms)) (((path v ++ m ∷ inverse_list (path (act v m))) ++ rest.loops) ++ path w)
                  (through v m ms hv one hu hms)
                  (agree-then root.rank ((path v ++ m ∷ inverse_list (path (act v m))) ++ (path (act v m) ++ ms)) ((path v ++ m ∷ inverse_list (path (act v m))) ++ (rest.loops ++ path w)) (((path v ++ m ∷ inverse_list (path (act v m))) ++ rest.loops) ++ path w)
                  (agree-before root.rank (path v ++ m ∷ inverse_list (path (act v m))) (path (act v m) ++ ms) (rest.loops ++ path w) hloop (both_of_rank root.rank (path (act v m)) ms hu hms) rest.same)
                  (agree-of root.rank ((path v ++ m ∷ inverse_list (path (act v m))) ++ (rest.loops ++ path w)) (((path v ++ m ∷ inverse_list (path (act v m))) ++ rest.loops) ++ path w)
                  (sym (append_assoc (path v ++ m ∷ inverse_list (path (act v m))) rest.loops (path w)))));
            })
      ]
    where
      level-end : (v w : TupleData) (ms : List Move) → InLevel root v → Reaches v ms w → InLevel root w
      level-end v w [] l here = l
      level-end v w (m ∷ ms) l (step e r) = level-end (act v m) w ms (in_level_pushed l e) r
