use Rattle.std.proofs.Common.{◌≡◌, ℕ, ◌<◌, false, arith, sym, ap, subst, ◌∙◌, refl, List, rules}
use Rattle.wh_words.specs.LetterSets.{in_set}
use Rattle.wh_flow.specs.Searches.{residual, IsPushed, IsShifted, IsSearched}
use Rattle.wh_flow.specs.Residuals.{ResidualNet}
use Rattle.wh_flow.proofs.Pushes.{pushed_on, residual_kept}
use Rattle.wh_flow.proofs.Masks.{mask_leads}
use Rattle.wh_flow.proofs.Searching.{searching_starts, searching_more, searching_ends, marked_grew, marked_fewer, grew_fewer, searched_fewer}
use Rattle.wh_flow.proofs.search.Search.+push.Goals as goal

pub loop-y-init : goal.loop-y-init
loop-y-init t c = record {
  sink = c.enter.ensures.sink;
  same = refl;
  grew = marked_grew c.args.self.now.seen c.enter.new.self.seen c.args.v c.enter.ensures.same c.enter.ensures.others;
  fewer = marked_fewer c.args.self.now.seen c.enter.new.self.seen c.args.v c.enter.ensures.same c.enter.ensures.others c.requires.v_within c.requires.fresh;
  searching = searching_starts c.args.residual.now.cap c.args.residual.now.flow c.args.self.now.seen c.args.residual.now.from c.args.v c.args.self.now.sink c.enter.new.self.seen c.enter.ensures.same c.enter.ensures.others
      (λ e. c.if-v-index.false (sym e ∙ sym c.index.ensures.same));
}

pub loop-y-smaller : goal.loop-y-smaller
loop-y-smaller t c = searched_fewer c.loop-y.self.seen c.push-d.new.self.seen c.in-Some.y
    (mask_leads c.successors-successors.result (residual c.args.residual.now.cap c.args.residual.now.flow c.args.residual.now.from c.args.v) c.in-Some.y c.successors-successors.ensures.successors c.in-Some.ensures.0 c.in-Some.ensures.1.0).0
    c.in-Some.ensures.1.1 (c.push-d.ensures.searched (omega (arith, c.if-d-gt0.false))).start c.push-d.ensures.grew

pub push-d-requires : goal.push-d-requires
push-d-requires t c =
    let lead = mask_leads c.successors-successors.result (residual c.args.residual.now.cap c.args.residual.now.flow c.args.residual.now.from c.args.v) c.in-Some.y c.successors-successors.ensures.successors c.in-Some.ensures.0 c.in-Some.ensures.1.0 in
    let there : 0 < residual c.loop-y.residual.cap c.loop-y.residual.flow c.loop-y.residual.from c.args.v c.in-Some.y =
    subst (λ (r : ResidualNet). 0 < residual r.cap r.flow r.from c.args.v c.in-Some.y) (sym c.loop-y.invariant.same) lead.1 in
    let within : c.in-Some.y < 52 = lead.0 in
    let fresh : in_set c.loop-y.self.seen c.in-Some.y ≡ false = c.in-Some.ensures.1.1 in
    let some : 0 < c.lesser.result = c.lesser.ensures.some c.requires.some (omega (arith, there, c.capacity.ensures)) in
    search (rules, within, fresh, some)

pub shift-requires-clause-fits : goal.shift-requires-clause-fits
shift-requires-clause-fits t c =
    let lead = mask_leads c.successors-successors.result (residual c.args.residual.now.cap c.args.residual.now.flow c.args.residual.now.from c.args.v) c.in-Some.y c.successors-successors.ensures.successors c.in-Some.ensures.0 c.in-Some.ensures.1.0 in
    let kept : residual c.loop-y.residual.cap c.loop-y.residual.flow c.loop-y.residual.from c.args.v c.in-Some.y ≡ residual c.loop-y.residual.cap c.push-d.new.residual.flow c.loop-y.residual.from c.args.v c.in-Some.y =
    residual_kept c.loop-y.residual.cap c.loop-y.residual.flow c.push-d.new.residual.flow c.loop-y.self.seen c.loop-y.residual.from c.args.v c.in-Some.y c.loop-y.self.sink c.push-d.result
    c.requires.v_within lead.0 c.loop-y.invariant.searching.start (c.push-d.ensures.pushed c.if-d-gt0.true) in
    let there : residual c.push-d.new.residual.cap c.push-d.new.residual.flow c.push-d.new.residual.from c.args.v c.in-Some.y ≡ residual c.loop-y.residual.cap c.push-d.new.residual.flow c.loop-y.residual.from c.args.v c.in-Some.y =
    ap (λ k. residual k c.push-d.new.residual.flow c.push-d.new.residual.from c.args.v c.in-Some.y) c.push-d.ensures.cap ∙ ap (λ k. residual c.loop-y.residual.cap c.push-d.new.residual.flow k c.args.v c.in-Some.y) c.push-d.ensures.from in
    omega (arith, c.push-d.ensures.most, c.lesser.ensures.second, c.capacity.ensures, kept, there)

pub returns-then-d-gt0-clause-grew : goal.returns-then-d-gt0-clause-grew
returns-then-d-gt0-clause-grew t c = λ y b. c.push-d.ensures.grew y (c.loop-y.invariant.grew y b)

pub returns-then-d-gt0-clause-pushed : goal.returns-then-d-gt0-clause-pushed
returns-then-d-gt0-clause-pushed t c h =
    let lead = mask_leads c.successors-successors.result (residual c.args.residual.now.cap c.args.residual.now.flow c.args.residual.now.from c.args.v) c.in-Some.y c.successors-successors.ensures.successors c.in-Some.ensures.0 c.in-Some.ensures.1.0 in
    let cap : c.push-d.new.residual.cap ≡ c.args.residual.now.cap = c.push-d.ensures.cap ∙ ap (λ (r : ResidualNet). r.cap) c.loop-y.invariant.same in
    let from : c.push-d.new.residual.from ≡ c.args.residual.now.from = c.push-d.ensures.from ∙ ap (λ (r : ResidualNet). r.from) c.loop-y.invariant.same in
    let pushed : IsPushed c.args.residual.now.cap c.args.residual.now.flow c.push-d.new.residual.flow c.loop-y.self.seen c.args.residual.now.from c.in-Some.y c.args.self.now.sink c.push-d.result =
    subst (λ (r : ResidualNet). IsPushed r.cap r.flow c.push-d.new.residual.flow c.loop-y.self.seen r.from c.in-Some.y c.args.self.now.sink c.push-d.result) c.loop-y.invariant.same
    (subst (λ (k : ℕ). IsPushed c.loop-y.residual.cap c.loop-y.residual.flow c.push-d.new.residual.flow c.loop-y.self.seen c.loop-y.residual.from c.in-Some.y k c.push-d.result) c.loop-y.invariant.sink
    (c.push-d.ensures.pushed h)) in
    let shifted : IsShifted c.args.residual.now.cap c.push-d.new.residual.flow c.shift.new.self.flow c.args.residual.now.from c.args.v c.in-Some.y c.push-d.result =
    subst (λ (k : List ℕ). IsShifted k c.push-d.new.residual.flow c.shift.new.self.flow c.args.residual.now.from c.args.v c.in-Some.y c.push-d.result) cap
    (subst (λ (k : ℕ). IsShifted c.push-d.new.residual.cap c.push-d.new.residual.flow c.shift.new.self.flow k c.args.v c.in-Some.y c.push-d.result) from c.shift.ensures.shifted) in
    pushed_on c.args.residual.now.cap c.args.residual.now.flow c.push-d.new.residual.flow c.shift.new.self.flow c.args.self.now.seen c.loop-y.self.seen c.args.residual.now.from c.args.v c.in-Some.y c.args.self.now.sink c.push-d.result
    c.requires.v_within lead.0 c.requires.fresh c.in-Some.ensures.1.1 c.loop-y.invariant.grew pushed shifted

pub loop-y-preserved : goal.loop-y-preserved
loop-y-preserved t c =
    let none : c.push-d.result ≡ 0 = omega (arith, c.if-d-gt0.false) in
    let lead = mask_leads c.successors-successors.result (residual c.args.residual.now.cap c.args.residual.now.flow c.args.residual.now.from c.args.v) c.in-Some.y c.successors-successors.ensures.successors c.in-Some.ensures.0 c.in-Some.ensures.1.0 in
    let searched : IsSearched c.args.residual.now.cap c.args.residual.now.flow c.loop-y.self.seen c.push-d.new.self.seen c.args.residual.now.from c.in-Some.y c.args.self.now.sink =
    subst (λ (r : ResidualNet). IsSearched r.cap r.flow c.loop-y.self.seen c.push-d.new.self.seen r.from c.in-Some.y c.args.self.now.sink) c.loop-y.invariant.same
    (subst (λ (k : ℕ). IsSearched c.loop-y.residual.cap c.loop-y.residual.flow c.loop-y.self.seen c.push-d.new.self.seen c.loop-y.residual.from c.in-Some.y k) c.loop-y.invariant.sink (c.push-d.ensures.searched none)) in
    record {
      sink = c.push-d.ensures.sink ∙ c.loop-y.invariant.sink;
      same = c.push-d.ensures.same none ∙ c.loop-y.invariant.same;
      grew = λ z b. c.push-d.ensures.grew z (c.loop-y.invariant.grew z b);
      fewer = omega (arith, grew_fewer c.loop-y.self.seen c.push-d.new.self.seen c.push-d.ensures.grew, c.loop-y.invariant.fewer);
      searching = searching_more c.args.residual.now.cap c.args.residual.now.flow c.args.self.now.seen c.args.residual.now.from c.args.v c.args.self.now.sink c.loop-y.self.seen c.push-d.new.self.seen c.in-Some.y
          c.requires.v_within lead.0 c.loop-y.invariant.searching lead.1 c.push-d.ensures.grew searched;
    }

pub returns-clause-searched : goal.returns-clause-searched
returns-clause-searched t c e = searching_ends c.args.residual.now.cap c.args.residual.now.flow c.args.self.now.seen c.args.residual.now.from c.args.v c.args.self.now.sink c.loop-y.self.seen c.successors-successors.result
    c.successors-successors.ensures.successors c.in_default.ensures c.loop-y.invariant.searching
