-- A certificate is read exactly from a text that is one: for the law on certificates.
use Rattle.std.proofs.Common.{◌≡◌, ℕ, ◌≤◌, ltb, ◌==◌, true, cond, List, [], ◌∷◌, ◌++◌, length, map, refl, sym, ap, ◌∙◌, subst, arith, append-nil, Result, Ok, Err}
use Rattle.std.specs.Prelude.{codes, decimal}
use Rattle.std.proofs.lemmas.Bool.{cond-false, eqb-true}
use Rattle.wh_words.specs.Limits.{most_rank, most_level_rank, most_stabiliser_rank}
use Rattle.wh_words.specs.Tuples.{TupleData}
use Rattle.wh_lines.specs.declared.read_error.ReadError.{ReadError}
use Rattle.wh_lines.specs.declared.read_error.ReadError.TheVariants as errors
use Rattle.wh_lines.specs.Lines.{Field, lines}
use Rattle.wh_lines.specs.Readings.{◌>>=◌, refused_as}
use Rattle.wh_lines.specs.Rows.{Row, number_row}
use Rattle.wh_lines.specs.Laws.{kept_numbers}
use Rattle.wh_lines.specs.KeptLines.{Kept, rest}
use Rattle.wh_lines.specs.KeptLines.Rest.{line, end}
use Rattle.wh_lines.specs.LineReadings.{Reading, start, line_after, end_after, end_of}
use Rattle.wh_lines.proofs.Equations.{bind_ok, ok_is, unless_ok, if_ok, not_more, is_not_more, refused_ok, no_fields}
use Rattle.wh_lines.proofs.NextLines.{behind, line_told, line_there, end_told}
use Rattle.wh_lines.proofs.RowReadings.{Passes, passes_split, passes_append}
use Rattle.wh_lines.proofs.RestRows.{Holds, AllSome, holds_is, holds_back, rest_all_some, holds_passes, passes_hold, passes_one}
use Rattle.wh_lines.proofs.ExactReadings.{Exact, Then, OneRow, exact_then, exact_when, exact_line}
use Rattle.wh_data.specs.declared.command.Command.{Command}
use Rattle.wh_data.specs.declared.command.Command.TheVariants as commands
use Rattle.wh_data.specs.Limits.{most_answer_bytes}
use Rattle.wh_text.specs.RankLines.{greatest_rank, rank_at, no_rank, rank_after}
use Rattle.wh_data.specs.AnswerData.{AnswerData, CertificateData}
use Rattle.wh_data.specs.AnswerData.StabVerdictData.{done, stopped}
use Rattle.wh_data.specs.AnswerData.AnswerData.{reduce, decide, straighten, stabiliser}
use Rattle.wh_data.specs.Commands.{command_name, is_checked, answer_version, heading_row}
use Rattle.wh_data.specs.AnswerTexts.{verdict_row, done_row}
use Rattle.wh_text.proofs.CommandNames.{heading_told, heading_back}
use Rattle.wh_text.specs.Certificates.{in_answer, AnswerRead, answer_with, heading_in, heading_after, done_after, with_end, answer_after, certificate}
use Rattle.wh_text.specs.CertificateTexts.{IsTupleRow, IsLikeRow, IsSideText, IsVerdictText, IsStabText, IsAnswerText, IsCertificateText, ReadsCertificates}
use Rattle.wh_text.proofs.RankLaws.{rank_within, rank_is, rank_back}
use Rattle.wh_text.proofs.ExactLines.{same_row, alone}
use Rattle.wh_text.proofs.ExactParts.{Stabilises, stab_there}
use Rattle.wh_text.proofs.ExactAnswers.{one_then, then_one, Reduced, Decided, Stabilised, Told, exact_told}

-- ---- the heading
abbrev pub HeadingIs : Row → Command → Type 0
HeadingIs r c = (r ≡ heading_row c) × (is_checked c ≡ true)

pub exact_heading : Exact heading_after (OneRow HeadingIs)
unfolding heading_after
exact_heading =
    exact_line (codes "whitehead") (λ k. heading_in k.number k.fields) HeadingIs
    (λ k c some is e. let told = heading_told k.number k.fields c e in (same_row k (codes "whitehead") (answer_version ∷ command_name c ∷ []) is told.0, told.1))
    (λ r k c tells is. (ap (λ (x : Row). x.keyword) is.0, heading_back k.number c k.fields is.1 (tells.same ∙ ap (λ (x : Row). x.fields) is.0)))

-- ---- the rank
pub record RankIs (c : Command) (r : Row) (n : ℕ) : Type 0 where
  pub spelled : r ≡ number_row (codes "rank") n
  pub least : 1 ≤ n
  pub most : n ≤ greatest_rank c

exact_plain : (c : Command) → Exact (λ p. line_after (codes "rank") p >>= λ k. rank_at c k.0.number k.0.fields >>= λ n. Ok (n, k.1)) (OneRow (RankIs c))
exact_plain c =
    exact_line (codes "rank") (λ k. rank_at c k.number k.fields) (RankIs c)
    (λ k n some is e. let s = rank_is c k.number n k.fields e in record { spelled = same_row k (codes "rank") (decimal n ∷ []) is s.0; least = s.1; most = s.2 })
    (λ r k n tells is. (ap (λ (x : Row). x.keyword) is.spelled, rank_back c k.number n k.fields (tells.same ∙ ap (λ (x : Row). x.fields) is.spelled) is.least is.most))

refused_drop : {A B : Type 0} (change : ReadError → ReadError) (r : Result A ReadError) (g : A → Result B ReadError) (y : B) → (refused_as change r >>= g) ≡ Ok y → (r >>= g) ≡ Ok y
refused_drop change (Ok x) g y e = e
refused_drop change (Err d) g y e = absurd (cc)

refused_keep : {A B : Type 0} (change : ReadError → ReadError) (r : Result A ReadError) (g : A → Result B ReadError) (y : B) → (r >>= g) ≡ Ok y → (refused_as change r >>= g) ≡ Ok y
refused_keep change (Ok x) g y e = e
refused_keep change (Err d) g y e = absurd (cc)

pub exact_rank : (c : Command) → Exact (λ p. refused_as in_answer (rank_after c p)) (OneRow (RankIs c))
unfolding rank_after
exact_rank c =
    let next : Kept × Reading → Result (ℕ × Reading) ReadError = λ k. rank_at c k.0.number k.0.fields >>= λ n. Ok (n, k.1) in
    record {
      is = λ p q n some e. (exact_plain c).is p q n some (refused_drop no_rank (line_after (codes "rank") p) next (n, q) (refused_ok in_answer (rank_after c p) (n, q) e));
      back = λ p q n rows told passes. ap (refused_as in_answer) (refused_keep no_rank (line_after (codes "rank") p) next (n, q) ((exact_plain c).back p q n rows told passes));
    }

-- ---- all before the last line
abbrev pub body : Reading → Result (AnswerRead × Reading) ReadError
body p = heading_after p >>= λ c. refused_as in_answer (rank_after c.0 c.1) >>= λ n. answer_with c.0 n.0 n.1

abbrev pub Body : List Row → AnswerRead → Type 0
Body = Then (OneRow HeadingIs) (λ c. Then (OneRow (RankIs c)) (Told c))

pub exact_body : Exact body Body
exact_body =
    exact_then heading_after (λ c. refused_as in_answer (rank_after c.0 c.1) >>= λ n. answer_with c.0 n.0 n.1) (OneRow HeadingIs) (λ c. Then (OneRow (RankIs c)) (Told c))
    exact_heading
    (λ c. exact_when (λ p. refused_as in_answer (rank_after c p)) (λ n. answer_with c n.0 n.1) (OneRow (RankIs c)) (Told c) (exact_rank c)
    (λ n rows told. exact_told c n (omega (arith, told.one.most, rank_within c))))

reduced_there : (n : ℕ) (rows : List Row) (x : AnswerRead) → 1 ≤ n → n ≤ most_rank → Reduced n rows x → IsAnswerText (heading_row commands.Reduce ∷ number_row (codes "rank") n ∷ rows ++ done_row ∷ []) x.answer x.heads x.tree_heads
reduced_there n rows x least most s =
    let h = one_then _ _ rows x s in
    let v = h.two in
    let side = alone (record { answer = reduce h.x v.x.side; heads = v.x.heads; tree_heads = [] }) x h.later v.first v.second v.parts v.two in
    let all : List Row = heading_row commands.Reduce ∷ number_row (codes "rank") n ∷ rows ++ done_row ∷ [] in
    let parts : all ≡ heading_row commands.Reduce ∷ number_row (codes "rank") n ∷ h.head ∷ v.first ++ done_row ∷ [] =
    ap (λ rs. heading_row commands.Reduce ∷ number_row (codes "rank") n ∷ rs ++ done_row ∷ []) (h.parts ∙ ap (λ rs. h.head ∷ rs) side) in
    subst (λ (y : AnswerRead). IsAnswerText all y.answer y.heads y.tree_heads) v.two.same
    (subst (λ (m : ℕ). (tuple_row : Row) × (side : List Row) × (all ≡ heading_row commands.Reduce ∷ number_row (codes "rank") m ∷ tuple_row ∷ side ++ done_row ∷ []) × (1 ≤ m) × (m ≤ most_rank) × IsTupleRow (codes "tuple") m tuple_row h.x × IsSideText m (length h.x.words) side v.x.side v.x.heads × (◌≡◌ {A = List ℕ} [] []))
    (ap (λ (t : TupleData). t.rank) (sym h.one.cyclic))
    (h.head, v.first, parts, least, most, h.one, v.one, refl))

decided_there : (n : ℕ) (rows : List Row) (x : AnswerRead) → 1 ≤ n → n ≤ most_level_rank → Decided n rows x → IsAnswerText (heading_row commands.Decide ∷ number_row (codes "rank") n ∷ rows ++ done_row ∷ []) x.answer x.heads x.tree_heads
decided_there n rows x least most s =
    let h = one_then _ _ rows x s in
    let g = one_then _ _ h.later x h.two in
    let v = g.two in
    let told = alone (record { answer = decide h.x g.x v.x.verdict; heads = v.x.heads; tree_heads = [] }) x g.later v.first v.second v.parts v.two in
    let all : List Row = heading_row commands.Decide ∷ number_row (codes "rank") n ∷ rows ++ done_row ∷ [] in
    let row = verdict_row v.x.verdict in
    let parts : all ≡ heading_row commands.Decide ∷ number_row (codes "rank") n ∷ h.head ∷ g.head ∷ row ∷ v.one.after ++ done_row ∷ [] =
    ap (λ rs. heading_row commands.Decide ∷ number_row (codes "rank") n ∷ rs ++ done_row ∷ []) (h.parts ∙ ap (λ rs. h.head ∷ rs) (g.parts ∙ ap (λ rs. g.head ∷ rs) (told ∙ v.one.parts))) in
    subst (λ (y : AnswerRead). IsAnswerText all y.answer y.heads y.tree_heads) v.two.same
    (subst (λ (m : ℕ). (first_row : Row) × (second_row : Row) × (after : List Row) × (all ≡ heading_row commands.Decide ∷ number_row (codes "rank") m ∷ first_row ∷ second_row ∷ row ∷ after ++ done_row ∷ []) × (1 ≤ m) × (m ≤ most_level_rank) × IsTupleRow (codes "first") m first_row h.x × IsLikeRow (codes "second") m (length h.x.words) second_row g.x × IsVerdictText m (length h.x.words) after v.x.verdict v.x.heads × (◌≡◌ {A = List ℕ} [] []))
    (ap (λ (t : TupleData). t.rank) (sym h.one.cyclic))
    (h.head, g.head, v.one.after, parts, least, most, h.one, g.one, v.one.told, refl))

stabilised_there : (n : ℕ) (rows : List Row) (x : AnswerRead) → 1 ≤ n → n ≤ most_stabiliser_rank → Stabilised n rows x → IsAnswerText (heading_row commands.Stabiliser ∷ number_row (codes "rank") n ∷ rows ++ done_row ∷ []) x.answer x.heads x.tree_heads
stabilised_there n rows x least most s =
    let h = one_then (IsTupleRow (codes "tuple") n) (Stabilises n) rows x s in
    let v = h.two in
    let g = v.two in
    let w = g.two in
    let last = alone (record { answer = stabiliser h.x (done v.x.side w.x.parts); heads = v.x.heads; tree_heads = w.x.heads }) x g.second w.first w.second w.parts w.two in
    let later : h.later ≡ v.first ++ (g.first ++ w.first) = v.parts ∙ ap (λ rs. v.first ++ rs) (g.parts ∙ ap (λ rs. g.first ++ rs) last) in
    let all : List Row = heading_row commands.Stabiliser ∷ number_row (codes "rank") n ∷ rows ++ done_row ∷ [] in
    let parts : all ≡ heading_row commands.Stabiliser ∷ number_row (codes "rank") n ∷ h.head ∷ h.later ++ done_row ∷ [] = ap (λ rs. heading_row commands.Stabiliser ∷ number_row (codes "rank") n ∷ rs ++ done_row ∷ []) h.parts in
    let told = stab_there n h.x h.later v.first g.first w.first v.x g.x w.x later v.one g.one w.one in
    subst (λ (y : AnswerRead). IsAnswerText all y.answer y.heads y.tree_heads) w.two.same
    (subst (λ (m : ℕ). (tuple_row : Row) × (after : List Row) × (all ≡ heading_row commands.Stabiliser ∷ number_row (codes "rank") m ∷ tuple_row ∷ after ++ done_row ∷ []) × (1 ≤ m) × (m ≤ most_stabiliser_rank) × IsTupleRow (codes "tuple") m tuple_row h.x × IsStabText m (length h.x.words) after (done v.x.side w.x.parts) v.x.heads w.x.heads)
    (ap (λ (t : TupleData). t.rank) (sym h.one.cyclic))
    (h.head, h.later, parts, least, most, h.one, told))

told_there : (c : Command) (n : ℕ) (rows : List Row) (x : AnswerRead) → 1 ≤ n → n ≤ greatest_rank c → Told c n rows x → IsAnswerText (heading_row c ∷ number_row (codes "rank") n ∷ rows ++ done_row ∷ []) x.answer x.heads x.tree_heads
told_there commands.Reduce n rows x least most s = reduced_there n rows x least most s
told_there commands.Decide n rows x least most s = decided_there n rows x least most s
told_there commands.Straighten n rows x least most s = absurd s
told_there commands.Stabiliser n rows x least most s = stabilised_there n rows x least most s

pub body_there : (rows : List Row) (x : AnswerRead) → Body rows x → IsAnswerText (rows ++ done_row ∷ []) x.answer x.heads x.tree_heads
body_there rows x s =
    let h = one_then _ _ rows x s in
    let g = one_then _ _ h.later x h.two in
    let parts : rows ≡ heading_row h.x ∷ number_row (codes "rank") g.x ∷ g.later =
    h.parts ∙ ap (λ rs. h.head ∷ rs) g.parts ∙ ap (λ r. r ∷ g.head ∷ g.later) h.one.0 ∙ ap (λ r. heading_row h.x ∷ r ∷ g.later) g.one.spelled in
    subst (λ (rs : List Row). IsAnswerText (rs ++ done_row ∷ []) x.answer x.heads x.tree_heads) (sym parts) (told_there h.x g.x g.later x g.one.least g.one.most g.two)

headed_back : (c : Command) (n : ℕ) (rows : List Row) (x : AnswerRead) → is_checked c ≡ true → 1 ≤ n → n ≤ greatest_rank c → Told c n rows x → Body (heading_row c ∷ number_row (codes "rank") n ∷ rows) x
headed_back c n rows x checked least most s =
    then_one HeadingIs (λ c. Then (OneRow (RankIs c)) (Told c)) (heading_row c ∷ number_row (codes "rank") n ∷ rows) x (record {
      x = c;
      head = heading_row c;
      later = number_row (codes "rank") n ∷ rows;
      parts = refl;
      one = (refl, checked);
      two = then_one (RankIs c) (Told c) (number_row (codes "rank") n ∷ rows) x (record {
        x = n;
        head = number_row (codes "rank") n;
        later = rows;
        parts = refl;
        one = record { spelled = refl; least = least; most = most };
        two = s;
      });
    })

body_again : (rows : List Row) (a : AnswerData) (heads : List (ℕ × ℕ)) (trees : List ℕ) → IsAnswerText rows a heads trees → (rs : List Row) × (rows ≡ rs ++ done_row ∷ []) × Body rs (record { answer = a; heads = heads; tree_heads = trees })
body_again rows (reduce t s) heads trees is = (
  heading_row commands.Reduce ∷ number_row (codes "rank") t.rank ∷ is.0 ∷ is.1,
  is.2,
  headed_back commands.Reduce t.rank (is.0 ∷ is.1) (record { answer = reduce t s; heads = heads; tree_heads = trees }) refl is.3 is.4 (record {
    x = t;
    first = is.0 ∷ [];
    second = is.1;
    parts = refl;
    one = record { row = is.0; parts = refl; one = is.5 };
    two = record { x = record { side = s; heads = heads }; first = is.1; second = []; parts = sym (append-nil is.1); one = is.6; two = record { none = refl; same = ap (λ hs. record { answer = reduce t s; heads = heads; tree_heads = hs }) (sym is.7) } };
  }),
)
body_again rows (decide s t v) heads trees is = (
  heading_row commands.Decide ∷ number_row (codes "rank") s.rank ∷ is.0 ∷ is.1 ∷ verdict_row v ∷ is.2,
  is.3,
  headed_back commands.Decide s.rank (is.0 ∷ is.1 ∷ verdict_row v ∷ is.2) (record { answer = decide s t v; heads = heads; tree_heads = trees }) refl is.4 is.5 (record {
    x = s;
    first = is.0 ∷ [];
    second = is.1 ∷ verdict_row v ∷ is.2;
    parts = refl;
    one = record { row = is.0; parts = refl; one = is.6 };
    two = record {
      x = t;
      first = is.1 ∷ [];
      second = verdict_row v ∷ is.2;
      parts = refl;
      one = record { row = is.1; parts = refl; one = is.7 };
      two = record {
        x = record { verdict = v; heads = heads };
        first = verdict_row v ∷ is.2;
        second = [];
        parts = sym (append-nil (verdict_row v ∷ is.2));
        one = record { after = is.2; parts = refl; told = is.8 };
        two = record { none = refl; same = ap (λ hs. record { answer = decide s t v; heads = heads; tree_heads = hs }) (sym is.9) };
      };
    };
  }),
)
body_again rows (straighten t given ms u) heads trees is = absurd is
body_again rows (stabiliser t (done s p)) heads trees is =
    let after = is.6 in (
      heading_row commands.Stabiliser ∷ number_row (codes "rank") t.rank ∷ is.0 ∷ is.1,
      is.2,
      headed_back commands.Stabiliser t.rank (is.0 ∷ is.1) (record { answer = stabiliser t (done s p); heads = heads; tree_heads = trees }) refl is.3 is.4 (record {
        x = t;
        first = is.0 ∷ [];
        second = is.1;
        parts = refl;
        one = record { row = is.0; parts = refl; one = is.5 };
        two = record {
          x = record { side = s; heads = heads };
          first = after.0;
          second = after.1 ++ after.2;
          parts = after.3;
          one = after.4;
          two = record {
            x = p.vertices;
            first = after.1;
            second = after.2;
            parts = refl;
            one = after.5;
            two = record {
              x = record { parts = p; heads = trees };
              first = after.2;
              second = [];
              parts = sym (append-nil after.2);
              one = (after.6, refl);
              two = record { none = refl; same = refl };
            };
          };
        };
      }),
    )
body_again rows (stabiliser t (stopped bound)) heads trees is = absurd is.6

-- ---- the last line
pub no_length_fields : (fs : List Field) → length fs ≡ 0 → map (λ f. f.bytes) fs ≡ []
no_length_fields [] e = refl
no_length_fields (f ∷ fs) e = absurd (omega (arith, e))

-- A text ends behind its last line.
record Ended (p : Reading) (q : Reading) : Type 0 where
  passes : Passes (done_row ∷ []) p q
  place : ℕ
  ends : q.rest ≡ end place

ended : (a : AnswerRead) (p : Reading) (y : AnswerRead × Reading) → AllSome p.rest → with_end a p ≡ Ok y → (a ≡ y.0) × Ended p y.1
unfolding done_after
ended a p y some e =
    let b = bind_ok (done_after p) (λ end. Ok (a, end.1)) y e in
    let c = bind_ok (line_after (codes "done") p) (λ k. cond (length k.0.fields == 0) (end_after k.1) (Err (errors.BadLine k.0.number))) b.0 b.1 in
    let line_is = line_told (codes "done") p c.0 c.1 in
    let d = if_ok (length c.0.0.fields == 0) (errors.BadLine c.0.0.number) (end_after c.0.1) b.0 c.2 in
    let g = end_told c.0.1 b.0 d.1 in
    let y_is : (a, b.0.1) ≡ y = ok_is (a, b.0.1) y b.2 in
    let behind_is : behind p c.0.0 c.0.1.rest ≡ y.1 =
    ap (λ ns. record { taken = ns; rest = c.0.1.rest }) (sym line_is.1) ∙ ap (λ r. record { taken = c.0.1.taken; rest = r }) g.1 ∙ sym g.2 ∙ ap (λ (v : AnswerRead × Reading). v.1) y_is in
    let all : AllSome (line c.0.0 c.0.1.rest) = subst AllSome line_is.0 some in (
      ap (λ (v : AnswerRead × Reading). v.0) y_is,
      record {
        passes = (c.0.0, c.0.1.rest, line_is.0, record { keyword = line_is.2; some = all.0; same = no_length_fields c.0.0.fields (eqb-true (length c.0.0.fields) 0 d.0) }, behind_is);
        place = g.0;
        ends = ap (λ (r : Reading). r.rest) (sym (ap (λ (v : AnswerRead × Reading). v.1) y_is) ∙ g.2);
      },
    )

end_there : (p : Reading) (m : ℕ) → p.rest ≡ end m → end_after p ≡ Ok (tt, p)
unfolding end_after
end_there p m e = ap (end_of p.taken) e ∙ ap (λ r. Ok (tt, record { taken = p.taken; rest = r })) (sym e)

end_back : (a : AnswerRead) (p q : Reading) (m : ℕ) → Passes (done_row ∷ []) p q → q.rest ≡ end m → with_end a p ≡ Ok (a, q)
unfolding done_after
end_back a p q m s e =
    let tells = s.3 in
    let last : Kept × Reading → Result (Unit {0} × Reading) ReadError = λ k. cond (length k.0.fields == 0) (end_after k.1) (Err (errors.BadLine k.0.number)) in
    let answered : Unit {0} × Reading → Result (AnswerRead × Reading) ReadError = λ end. Ok (a, end.1) in
    ap (λ r. (r >>= last) >>= answered) (line_there (codes "done") p s.0 s.1 s.2 tells.keyword)
    ∙ ap (λ (fs : List Field). cond (length fs == 0) (end_after (behind p s.0 s.1)) (Err (errors.BadLine s.0.number)) >>= answered) (no_fields s.0.fields tells.same)
    ∙ ap (λ r. end_after r >>= answered) s.4
    ∙ ap (λ r. r >>= answered) (end_there q m e)

-- ---- the whole text
bind_bind : {A B C : Type 0} (r : Result A ReadError) (f : A → Result B ReadError) (g : B → Result C ReadError) → (r >>= λ x. f x >>= g) ≡ ((r >>= f) >>= g)
bind_bind (Ok x) f g = refl
bind_bind (Err e) f g = refl

abbrev pub finish : AnswerRead × Reading → Result (AnswerRead × Reading) ReadError
finish x = with_end x.0 x.1

pub answer_split : (p : Reading) → answer_after p ≡ (body p >>= finish)
unfolding answer_after
answer_split p = by (heading_after p)
  where
    by : (r : Result (Command × Reading) ReadError) →
        (r >>= λ c. refused_as in_answer (rank_after c.0 c.1) >>= λ n. answer_with c.0 n.0 n.1 >>= finish) ≡ ((r >>= λ c. refused_as in_answer (rank_after c.0 c.1) >>= λ n. answer_with c.0 n.0 n.1) >>= finish)
    by (Ok c) = bind_bind (refused_as in_answer (rank_after c.0 c.1)) (λ n. answer_with c.0 n.0 n.1) finish
    by (Err e) = refl

abbrev pub certified : AnswerRead × Reading → Result CertificateData ReadError
certified read = Ok (record { answer = read.0.answer; lines = read.1.taken; flow_heads = read.0.heads; tree_heads = read.0.tree_heads })

certificate_is : (bytes : List ℕ) (c : CertificateData) → certificate bytes ≡ Ok c → (length bytes ≤ most_answer_bytes) × IsCertificateText bytes c
unfolding certificate
certificate_is bytes c e =
    let at : Reading = start bytes in
    let size = unless_ok (ltb most_answer_bytes (length bytes)) (errors.InputTooLong most_answer_bytes) (answer_after at >>= certified) c e in
    let a = bind_ok (answer_after at) certified c size.1 in
    let b = bind_ok (body at) finish a.0 (sym (answer_split at) ∙ a.1) in
    let s = exact_body.is at b.0.1 b.0.0 (rest_all_some 1 (lines bytes)) b.1 in
    let d = ended b.0.0 b.0.1 a.0 s.some b.2 in
    let rows : List Row = s.rows ++ done_row ∷ [] in
    let passes = passes_append s.rows (done_row ∷ []) at b.0.1 a.0.1 s.passes d.1.passes in
    let holds : Holds (rest 1 (lines bytes)) rows = passes_hold rows at a.0.1 d.1.place passes d.1.ends in
    let all = holds_passes 1 [] (lines bytes) rows holds in
    let same = passes_one rows at a.0.1 (record { taken = kept_numbers 1 (lines bytes); rest = end all.0 }) passes all.1 in
    let have = holds_is 1 (lines bytes) rows holds in (
      not_more most_answer_bytes (length bytes) size.0,
      subst (IsCertificateText bytes) (ok_is (record { answer = a.0.0.answer; lines = a.0.1.taken; flow_heads = a.0.0.heads; tree_heads = a.0.0.tree_heads }) c a.2) (record {
        clean = have.clean;
        rows = rows;
        kept = have.texts;
        told = subst (λ (x : AnswerRead). IsAnswerText rows x.answer x.heads x.tree_heads) d.0 (body_there s.rows b.0.0 s.told);
        numbers = ap (λ (r : Reading). r.taken) same;
      }),
    )

-- the answer of a text that is a certificate, whatever its size
pub answer_back : (bytes : List ℕ) (c : CertificateData) → IsCertificateText bytes c → (x : AnswerRead × Reading) × (answer_after (start bytes) ≡ Ok x) × (certified x ≡ Ok c)
answer_back bytes c t =
    let at : Reading = start bytes in
    let b = body_again t.rows c.answer c.flow_heads c.tree_heads t.told in
    let all = holds_passes 1 [] (lines bytes) t.rows (holds_back 1 (lines bytes) t.rows (record { clean = t.clean; texts = t.kept })) in
    let q : Reading = record { taken = kept_numbers 1 (lines bytes); rest = end all.0 } in
    let passes = passes_split b.0 (done_row ∷ []) at q (subst (λ (rs : List Row). Passes rs at q) b.1 all.1) in
    let x : AnswerRead = record { answer = c.answer; heads = c.flow_heads; tree_heads = c.tree_heads } in
    let read : body at ≡ Ok (x, passes.0) = exact_body.back at passes.0 x b.0 b.2 passes.1 in (
      (x, q),
      answer_split at ∙ ap (λ r. r >>= finish) read ∙ end_back x passes.0 q all.0 passes.2 refl,
      ap (λ ns. Ok (record { answer = c.answer; lines = ns; flow_heads = c.flow_heads; tree_heads = c.tree_heads })) (sym t.numbers),
    )

certificate_back : (bytes : List ℕ) (c : CertificateData) → length bytes ≤ most_answer_bytes → IsCertificateText bytes c → certificate bytes ≡ Ok c
unfolding certificate
certificate_back bytes c h t =
    let read = answer_back bytes c t in
    cond-false (ltb most_answer_bytes (length bytes)) (Err (errors.InputTooLong most_answer_bytes)) (answer_after (start bytes) >>= certified) (is_not_more most_answer_bytes (length bytes) h)
    ∙ ap (λ r. r >>= certified) read.1
    ∙ read.2

pub reads_certificates : ReadsCertificates
reads_certificates bytes c = (certificate_is bytes c, λ p. certificate_back bytes c p.0 p.1)
