-- The tuples of a certificate that was read are tuples: for the law on what is told valid.
use Rattle.std.proofs.Common.{◌≡◌, ℕ, ◌≤◌, ◌==◌, ltb, cond, List, [], ◌++◌, length, sym, ap, subst, arith, Result, Ok, Err}
use Rattle.std.specs.Prelude.{codes}
use Rattle.wh_words.specs.Tuples.{TupleData, IsTuple}
use Rattle.wh_words.specs.Moves.{Move}
use Rattle.wh_words.proofs.StoredWords.{IsTuple-of}
use Rattle.wh_data.specs.declared.command.Command.{Command}
use Rattle.wh_data.specs.declared.command.Command.TheVariants as commands
use Rattle.wh_lines.specs.declared.read_error.ReadError.{ReadError}
use Rattle.wh_lines.specs.declared.read_error.ReadError.TheVariants as errors
use Rattle.wh_lines.specs.Lines.{Field}
use Rattle.wh_lines.specs.Readings.{◌>>=◌, refused_as}
use Rattle.wh_lines.specs.KeptLines.{Kept}
use Rattle.wh_lines.specs.LineReadings.{Reading, start, line_after, times}
use Rattle.wh_fields.specs.TupleFields.{tuple_at}
use Rattle.wh_text.specs.RankLines.{greatest_rank, rank_at, no_rank, rank_after}
use Rattle.wh_data.specs.AnswerData.{CertificateData}
use Rattle.wh_data.specs.AnswerData.VerdictData.{yes, no_length, no_level}
use Rattle.wh_data.specs.AnswerData.StabVerdictData.{done}
use Rattle.wh_data.specs.AnswerData.AnswerData.{reduce, decide, stabiliser}
use Rattle.wh_text.specs.Certificates.{in_answer, tuple_after, like_of, like_after, moves_after, flow_after, SideRead, side_with, with_flows, ended_after, side_after, level_after, VerdictWord, VerdictRead, sides_after, verdict_in, verdict_with, verdict_after, stab_trace_after, PartsRead, parts_after, AnswerRead, reduced_after, decided_after, with_parts, with_stab, stabilised_after, answer_with, heading_after, done_after, with_end, answer_after, certificate}
use Rattle.wh_data.specs.Limits.{most_answer_bytes}
use Rattle.wh_text.specs.Certificates.VerdictWord.{a_yes, a_no_length, a_no_level}
use Rattle.wh_text.proofs.RankLaws.{rank_is}
use Rattle.wh_lines.proofs.Equations.{bind_ok, ok_same, unless_ok, if_ok, refused_ok}
use Rattle.wh_fields.proofs.WordReadings.{words_read}
use Rattle.wh_fields.proofs.TupleLaws.{tuple_made}
use Rattle.wh_answer.specs.Certified.{EndsAreTuples, HasTuples}

-- ---- tuples
abbrev IsTupleIn : ℕ → TupleData → Type 0
IsTupleIn n t = IsTuple t × (t.rank ≡ n)

tuple_told : (n l : ℕ) (fs : List Field) (t : TupleData) → n ≤ 26 → tuple_at n l fs ≡ Ok t → IsTupleIn n t
tuple_told n l fs t h e =
    let made = tuple_made n l fs t e in
    let words = words_read n l fs made.written h made.read in
    let few : length made.written ≤ 64 = omega (arith, words.count, made.few) in
    (subst IsTuple (sym made.cyclic) (IsTuple-of n made.written words.of_rank few made.short), ap (λ (u : TupleData). u.rank) made.cyclic)

read_told : (n l : ℕ) (fs : List Field) (t : TupleData) → n ≤ 26 → refused_as in_answer (tuple_at n l fs) ≡ Ok t → IsTupleIn n t
read_told n l fs t h e = tuple_told n l fs t h (refused_ok in_answer (tuple_at n l fs) t e)

after_told : (keyword : List ℕ) (n : ℕ) (p : Reading) (r : TupleData × Reading) → n ≤ 26 → tuple_after keyword n p ≡ Ok r → IsTupleIn n r.0
unfolding tuple_after
after_told keyword n p r h e =
    let a = bind_ok (line_after keyword p) (λ k. refused_as in_answer (tuple_at n k.0.number k.0.fields) >>= λ t. Ok (t, k.1)) r e in
    let b = bind_ok (refused_as in_answer (tuple_at n a.0.0.number a.0.0.fields)) (λ t. Ok (t, a.0.1)) r a.2 in
    ok_same (λ (x : TupleData × Reading). IsTupleIn n x.0) (b.0, a.0.1) r b.2
    (read_told n a.0.0.number a.0.0.fields b.0 h b.1)

like_told : (keyword : List ℕ) (n count : ℕ) (p : Reading) (r : TupleData × Reading) → n ≤ 26 → like_after keyword n count p ≡ Ok r → IsTupleIn n r.0
unfolding like_after like_of
like_told keyword n count p r h e =
    let a = bind_ok (line_after keyword p) (λ k. like_of n count k.0 >>= λ t. Ok (t, k.1)) r e in
    let b = bind_ok (like_of n count a.0.0) (λ t. Ok (t, a.0.1)) r a.2 in
    let c = bind_ok (refused_as in_answer (tuple_at n a.0.0.number a.0.0.fields)) (λ t. cond (length t.words == count) (Ok t) (Err (errors.BadLine a.0.0.number))) b.0 b.1 in
    let same = (if_ok (length c.0.words == count) (errors.BadLine a.0.0.number) (Ok c.0) b.0 c.2).1 in
    ok_same (λ (x : TupleData × Reading). IsTupleIn n x.0) (b.0, a.0.1) r b.2
    (ok_same (IsTupleIn n) c.0 b.0 same (read_told n a.0.0.number a.0.0.fields c.0 h c.1))

-- ---- sides and verdicts
ended_told : (n count : ℕ) (ms : List Move) (p : Reading) (r : SideRead × Reading) → n ≤ 26 → ended_after n count ms p ≡ Ok r → IsTuple r.0.side.end
ended_told n count ms p r h e =
    let a = bind_ok (like_after (codes "end") n count p) (λ t. with_flows n ms t.0 t.1) r e in
    let b = bind_ok (times (flow_after n) n a.0.1) (λ fs. Ok (side_with ms a.0.0 fs.0, fs.1)) r a.2 in
    ok_same (λ (x : SideRead × Reading). IsTuple x.0.side.end) (side_with ms a.0.0 b.0.0, b.0.1) r b.2 (like_told (codes "end") n count p a.0 h a.1).0

side_told : (n count : ℕ) (p : Reading) (r : SideRead × Reading) → n ≤ 26 → side_after n count p ≡ Ok r → IsTuple r.0.side.end
unfolding side_after
side_told n count p r h e =
    let a = bind_ok (moves_after (codes "trace") n p) (λ ms. ended_after n count ms.0 ms.1) r e in
    ended_told n count a.0.0 a.0.1 r h a.2

abbrev AreSidesTold : SideRead × SideRead → Type 0
AreSidesTold s = IsTuple s.0.side.end × IsTuple s.1.side.end

sides_told : (n count : ℕ) (p : Reading) (r : (SideRead × SideRead) × Reading) → n ≤ 26 → sides_after n count p ≡ Ok r → AreSidesTold r.0
unfolding sides_after
sides_told n count p r h e =
    let a = bind_ok (side_after n count p) (λ s. side_after n count s.1 >>= λ t. Ok ((s.0, t.0), t.1)) r e in
    let b = bind_ok (side_after n count a.0.1) (λ t. Ok ((a.0.0, t.0), t.1)) r a.2 in
    ok_same (λ (x : (SideRead × SideRead) × Reading). AreSidesTold x.0) ((a.0.0, b.0.0), b.0.1) r b.2 (side_told n count p a.0 h a.1, side_told n count a.0.1 b.0 h b.1)

abbrev IsVerdictTold : VerdictRead × Reading → Type 0
IsVerdictTold r = EndsAreTuples r.0.verdict

verdict_with_told : (n count : ℕ) (word : VerdictWord) (p : Reading) (r : VerdictRead × Reading) → n ≤ 26 → verdict_with n count word p ≡ Ok r → IsVerdictTold r
verdict_with_told n count a_yes p r h e =
    let a = bind_ok (moves_after (codes "moves") n p) (λ ms. Ok (record { verdict = yes ms.0; heads = [] }, ms.1)) r e in
    ok_same IsVerdictTold (record { verdict = yes a.0.0; heads = [] }, a.0.1) r a.2 tt
verdict_with_told n count a_no_length p r h e =
    let a = bind_ok (sides_after n count p) (λ s. Ok (record { verdict = no_length s.0.0.side s.0.1.side; heads = s.0.0.heads ++ s.0.1.heads }, s.1)) r e in
    ok_same IsVerdictTold (record { verdict = no_length a.0.0.0.side a.0.0.1.side; heads = a.0.0.0.heads ++ a.0.0.1.heads }, a.0.1) r a.2 (sides_told n count p a.0 h a.1)
verdict_with_told n count a_no_level p r h e =
    let a = bind_ok (sides_after n count p) (λ s. level_after n count s.1 >>= λ ts. Ok (record { verdict = no_level s.0.0.side s.0.1.side ts.0; heads = s.0.0.heads ++ s.0.1.heads }, ts.1)) r e in
    let b = bind_ok (level_after n count a.0.1) (λ ts. Ok (record { verdict = no_level a.0.0.0.side a.0.0.1.side ts.0; heads = a.0.0.0.heads ++ a.0.0.1.heads }, ts.1)) r a.2 in
    ok_same IsVerdictTold (record { verdict = no_level a.0.0.0.side a.0.0.1.side b.0.0; heads = a.0.0.0.heads ++ a.0.0.1.heads }, b.0.1) r b.2 (sides_told n count p a.0 h a.1)

verdict_told : (n count : ℕ) (p : Reading) (r : VerdictRead × Reading) → n ≤ 26 → verdict_after n count p ≡ Ok r → IsVerdictTold r
unfolding verdict_after
verdict_told n count p r h e =
    let a = bind_ok (line_after (codes "verdict") p) (λ k. verdict_in k.0.number k.0.fields >>= λ word. verdict_with n count word k.1) r e in
    let b = bind_ok (verdict_in a.0.0.number a.0.0.fields) (λ word. verdict_with n count word a.0.1) r a.2 in
    verdict_with_told n count b.0 a.0.1 r h b.2

-- ---- answers
abbrev IsAnswerTold : AnswerRead × Reading → Type 0
IsAnswerTold r = HasTuples r.0.answer

reduced_told : (n : ℕ) (p : Reading) (r : AnswerRead × Reading) → n ≤ 26 → reduced_after n p ≡ Ok r → IsAnswerTold r
unfolding reduced_after
reduced_told n p r h e =
    let a = bind_ok (tuple_after (codes "tuple") n p) (λ t. side_after n (length t.0.words) t.1 >>= λ s. Ok (record { answer = reduce t.0 s.0.side; heads = s.0.heads; tree_heads = [] }, s.1)) r e in
    let b = bind_ok (side_after n (length a.0.0.words) a.0.1) (λ s. Ok (record { answer = reduce a.0.0 s.0.side; heads = s.0.heads; tree_heads = [] }, s.1)) r a.2 in
    let tuple = after_told (codes "tuple") n p a.0 h a.1 in
    ok_same IsAnswerTold (record { answer = reduce a.0.0 b.0.0.side; heads = b.0.0.heads; tree_heads = [] }, b.0.1) r b.2
    (tuple.0, omega (arith, tuple.1, h), side_told n (length a.0.0.words) a.0.1 b.0 h b.1)

decided_told : (n : ℕ) (p : Reading) (r : AnswerRead × Reading) → n ≤ 26 → decided_after n p ≡ Ok r → IsAnswerTold r
unfolding decided_after
decided_told n p r h e =
    let a = bind_ok (tuple_after (codes "first") n p) (λ s. like_after (codes "second") n (length s.0.words) s.1 >>= λ t. verdict_after n (length s.0.words) t.1 >>= λ v. Ok (record { answer = decide s.0 t.0 v.0.verdict; heads = v.0.heads; tree_heads = [] }, v.1)) r e in
    let b = bind_ok (like_after (codes "second") n (length a.0.0.words) a.0.1) (λ t. verdict_after n (length a.0.0.words) t.1 >>= λ v. Ok (record { answer = decide a.0.0 t.0 v.0.verdict; heads = v.0.heads; tree_heads = [] }, v.1)) r a.2 in
    let c = bind_ok (verdict_after n (length a.0.0.words) b.0.1) (λ v. Ok (record { answer = decide a.0.0 b.0.0 v.0.verdict; heads = v.0.heads; tree_heads = [] }, v.1)) r b.2 in
    let first = after_told (codes "first") n p a.0 h a.1 in
    let second = like_told (codes "second") n (length a.0.0.words) a.0.1 b.0 h b.1 in
    ok_same IsAnswerTold (record { answer = decide a.0.0 b.0.0 c.0.0.verdict; heads = c.0.0.heads; tree_heads = [] }, c.0.1) r c.2
    (first.0, second.0, omega (arith, first.1, h), verdict_told n (length a.0.0.words) b.0.1 c.0 h c.1)

-- what was read of a tuple, its side, and what presents its stabiliser
abbrev stab_read : TupleData → SideRead → PartsRead → AnswerRead
stab_read t s ps = record { answer = stabiliser t (done s.side ps.parts); heads = s.heads; tree_heads = ps.heads }

stabilised_told : (n : ℕ) (p : Reading) (r : AnswerRead × Reading) → n ≤ 26 → stabilised_after n p ≡ Ok r → IsAnswerTold r
unfolding stabilised_after
stabilised_told n p r h e =
    let a = bind_ok (tuple_after (codes "tuple") n p) (λ t. with_stab n t.0 t.1) r e in
    let count = length a.0.0.words in
    let b = bind_ok (stab_trace_after n a.0.1) (λ ms. ended_after n count ms.0 ms.1 >>= λ s. with_parts n a.0.0 s.0 s.1) r a.2 in
    let c = bind_ok (ended_after n count b.0.0 b.0.1) (λ s. with_parts n a.0.0 s.0 s.1) r b.2 in
    let d = bind_ok (level_after n count c.0.1) (λ vs. parts_after n c.0.0.side.end vs.0 vs.1 >>= λ ps. Ok (stab_read a.0.0 c.0.0 ps.0, ps.1)) r c.2 in
    let f = bind_ok (parts_after n c.0.0.side.end d.0.0 d.0.1) (λ ps. Ok (stab_read a.0.0 c.0.0 ps.0, ps.1)) r d.2 in
    let tuple = after_told (codes "tuple") n p a.0 h a.1 in
    ok_same IsAnswerTold (stab_read a.0.0 c.0.0 f.0.0, f.0.1) r f.2 (tuple.0, omega (arith, tuple.1, h), ended_told n count b.0.0 b.0.1 c.0 h c.1)

answer_with_told : (command : Command) (n : ℕ) (p : Reading) (r : AnswerRead × Reading) → n ≤ greatest_rank command → answer_with command n p ≡ Ok r → IsAnswerTold r
answer_with_told commands.Reduce n p r h e = reduced_told n p r h e
answer_with_told commands.Decide n p r h e = decided_told n p r (omega (arith, h)) e
answer_with_told commands.Straighten n p r h e = absurd (cc)
answer_with_told commands.Stabiliser n p r h e = stabilised_told n p r (omega (arith, h)) e

rank_told : (command : Command) (p : Reading) (r : ℕ × Reading) → rank_after command p ≡ Ok r → r.0 ≤ greatest_rank command
unfolding rank_after
rank_told command p r e =
    let next : Kept × Reading → Result (ℕ × Reading) ReadError = λ k. rank_at command k.0.number k.0.fields >>= λ n. Ok (n, k.1) in
    let a = bind_ok (refused_as no_rank (line_after (codes "rank") p)) next r e in
    let b = bind_ok (rank_at command a.0.0.number a.0.0.fields) (λ n. Ok (n, a.0.1)) r a.2 in
    ok_same (λ (x : ℕ × Reading). x.0 ≤ greatest_rank command) (b.0, a.0.1) r b.2 (rank_is command a.0.0.number b.0 a.0.0.fields b.1).2

answer_told : (p : Reading) (read : AnswerRead × Reading) → answer_after p ≡ Ok read → IsAnswerTold read
unfolding answer_after
answer_told p read e =
    let a = bind_ok (heading_after p) (λ command. refused_as in_answer (rank_after command.0 command.1) >>= λ n. answer_with command.0 n.0 n.1 >>= λ answer. with_end answer.0 answer.1) read e in
    let b = bind_ok (refused_as in_answer (rank_after a.0.0 a.0.1)) (λ n. answer_with a.0.0 n.0 n.1 >>= λ answer. with_end answer.0 answer.1) read a.2 in
    let c = bind_ok (answer_with a.0.0 b.0.0 b.0.1) (λ answer. with_end answer.0 answer.1) read b.2 in
    let d = bind_ok (done_after c.0.1) (λ end. Ok (c.0.0, end.1)) read c.2 in
    let low = rank_told a.0.0 a.0.1 b.0 (refused_ok in_answer (rank_after a.0.0 a.0.1) b.0 b.1) in
    ok_same IsAnswerTold (c.0.0, d.0.1) read d.2 (answer_with_told a.0.0 b.0.0 b.0.1 c.0 low c.1)

pub certificate_tuples : (bytes : List ℕ) (c : CertificateData) → certificate bytes ≡ Ok c → HasTuples c.answer
unfolding certificate
certificate_tuples bytes c e =
    let made : AnswerRead × Reading → CertificateData = λ read. record { answer = read.0.answer; lines = read.1.taken; flow_heads = read.0.heads; tree_heads = read.0.tree_heads } in
    let a = unless_ok (ltb most_answer_bytes (length bytes)) (errors.InputTooLong most_answer_bytes) (answer_after (start bytes) >>= λ read. Ok (made read)) c e in
    let b = bind_ok (answer_after (start bytes)) (λ read. Ok (made read)) c a.1 in
    ok_same (λ (x : CertificateData). HasTuples x.answer) (made b.0) c b.2 (answer_told (start bytes) b.0 b.1)
