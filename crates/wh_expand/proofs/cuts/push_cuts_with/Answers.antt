use Rattle.std.proofs.Common.{◌≡◌, ℕ, ◌+◌, ◌-◌, ◌*◌, ◌^◌, length, refl, sym, ap, ◌∙◌, subst, arith}
use Rattle.wh_words.specs.Moves.Kind.{cut}
use Rattle.wh_expand.specs.FirstLevelMoves.{AreLevelMovesBefore}
use Rattle.wh_expand.proofs.FirstMoves.{skip_sets, all_sets}
use Rattle.wh_expand.proofs.Runs.{before, run, before_runs, between_runs, start_is, end_is, end_within, past_table}
use Rattle.wh_expand.proofs.cuts.push_cuts_with.Goals as goal

pub loop-block-init : goal.loop-block-init
loop-block-init c =
    skip_sets c.args.tuple.now.plain c.args.moves.now.items c.args.tuple.now.plain.rank c.args.mult 0 (4 * run c.args.mult * 0 + 2 ^ c.args.mult) refl (omega arith) c.requires.before
    (λ v h l. before_runs c.args.tuple.now.plain.rank c.args.mult v (omega (arith, l)))

pub push_run-requires-clause-within : goal.push_run-requires-clause-within
push_run-requires-clause-within c =
    let letters : 2 * (c.generator.result - 1) ≡ before c.args.mult = omega (arith, c.generator.ensures.value) in
    end_within c.args.mult c.count_sets-run.result c.count_sets-first.result
    (c.count_sets-run.ensures ∙ ap (λ k. 2 ^ k) letters) (c.count_sets-first.ensures ∙ ap (λ k. 2 ^ k) c.index.ensures.same)
    c.args.tuple.now.plain.rank (length c.args.capacities.now) c.requires.capacities.size c.requires.of_rank c.loop-block.block c.loop-block-test.true

pub push_run-requires-clause-before : goal.push_run-requires-clause-before
push_run-requires-clause-before c =
    let letters : 2 * (c.generator.result - 1) ≡ before c.args.mult = omega (arith, c.generator.ensures.value) in
    subst (λ (s : ℕ). AreLevelMovesBefore c.args.tuple.now.plain (cut c.args.mult s) c.loop-block.moves.items)
    (sym (start_is c.args.mult c.count_sets-run.result c.count_sets-first.result
    (c.count_sets-run.ensures ∙ ap (λ k. 2 ^ k) letters) (c.count_sets-first.ensures ∙ ap (λ k. 2 ^ k) c.index.ensures.same) c.loop-block.block))
    c.loop-block.invariant

pub loop-block-preserved : goal.loop-block-preserved
loop-block-preserved c =
    let letters : 2 * (c.generator.result - 1) ≡ before c.args.mult = omega (arith, c.generator.ensures.value) in
    skip_sets c.args.tuple.now.plain c.push_run.new.moves.items c.args.tuple.now.plain.rank c.args.mult (4 * run c.args.mult * c.loop-block.block + 2 ^ c.args.mult + run c.args.mult)
    (4 * run c.args.mult * (c.loop-block.block + 1) + 2 ^ c.args.mult) refl (omega arith)
    (subst (λ (s : ℕ). AreLevelMovesBefore c.args.tuple.now.plain (cut c.args.mult s) c.push_run.new.moves.items)
    (end_is c.args.mult c.count_sets-run.result c.count_sets-first.result
    (c.count_sets-run.ensures ∙ ap (λ k. 2 ^ k) letters) (c.count_sets-first.ensures ∙ ap (λ k. 2 ^ k) c.index.ensures.same) c.loop-block.block)
    c.in_ok-push_run.ensures)
    (λ v h l. between_runs c.args.tuple.now.plain.rank c.args.mult c.loop-block.block v h l)

pub returns : goal.returns
returns c =
    let letters : 2 * (c.generator.result - 1) ≡ before c.args.mult = omega (arith, c.generator.ensures.value) in
    all_sets c.args.tuple.now.plain c.loop-block.moves.items c.args.mult (4 * run c.args.mult * c.loop-block.block + 2 ^ c.args.mult) c.loop-block.invariant
    (past_table c.args.mult c.count_sets-run.result c.count_sets-first.result
    (c.count_sets-run.ensures ∙ ap (λ k. 2 ^ k) letters) (c.count_sets-first.ensures ∙ ap (λ k. 2 ^ k) c.index.ensures.same)
    c.args.tuple.now.plain.rank (length c.args.capacities.now) c.requires.capacities.size c.requires.of_rank c.loop-block.block c.loop-block-test.false)
