use Rattle.std.proofs.Common.{◌≡◌, ℕ, ◌<◌, min, Bool, List, length, get_or, sym, ◌∙◌, arith, length-take}
use Rattle.pager_state.specs.World.{staged_limit}
use Rattle.pager_state.specs.Overlay.{find_in, slot_of, staged_pages}
use Rattle.pager_state.proofs.Held.{slots}
use Rattle.pager_state.specs.declared.Staged.{Staged}
use Rattle.pager_differing.proofs.Differing.{count_none, count-step, count-all}
use Rattle.pager_differing.proofs.Marking.{marks-none, marks-more, marks-kept, marks-all}
use Rattle.pager_differing.proofs.mark_differing.Goals as goal
use Rattle.pager_differing.specs.Differing.{counts_at}
use Rattle.pager_differing.proofs.mark_differing.Goals.{then-is_counted, else-is_counted}

slotted : (s : Staged) (g t l m : List ℕ) (page i : ℕ) {first : ℕ} {yes : Bool} → first ≡ find_in (staged_pages s) page → yes ≡ counts_at first g t l m page i
    → counts_at (slot_of s page) g t l m page i ≡ yes
unfolding slot_of
slotted s g t l m page i e f = rw e at (sym f)

pub loop-i-init : goal.loop-i-init
loop-i-init c =
    let a = c.args in
    record {
      few = omega arith;
      counted = count_none a.staged a.areas.staging.now a.areas.table.now a.areas.log.now a.areas.main.now;
      marked = marks-none a.staged a.areas.staging.now a.areas.table.now a.areas.log.now a.areas.main.now;
    }

pub loop-i-preserved : goal.loop-i-preserved
loop-i-preserved c =
    let s = c.args.staged in
    let g = c.args.areas.staging.now in
    let t = c.args.areas.table.now in
    let l = c.args.areas.log.now in
    let m = c.args.areas.main.now in
    let i = c.loop-i.i in
    let v = c.loop-i.invariant in
    let z : length s.pages ≡ staged_limit = slots s _ c.well_formed.0 in
    let y : length (staged_pages s) ≡ min s.count staged_limit = simp (length-take, z) in
    let h : i < length (staged_pages s) = omega (arith, c.min-end.ensures) in
    let k = count-step s g t l m i c.from-page.result h c.from-page.ensures c.find_among-first.ensures.value c.is_counted.ensures v.counted in
    let q : counts_at (slot_of s c.from-page.result) g t l m c.from-page.result i ≡ c.is_counted.result = slotted s g t l m c.from-page.result i c.find_among-first.ensures.value c.is_counted.ensures in
    let o : counts_at (slot_of s (get_or s.pages i 0)) g t l m (get_or s.pages i 0) i ≡ c.is_counted.result = rw c.from-page.ensures at q in
    elim c.if-is_counted.branch [
      | then-is_counted w ↦ record {
        few = omega (arith, w.count-is);
        counted = w.count-is ∙ rw w.if-is_counted.true at k;
        marked = rw w.pages-is (marks-more s g t l m i v.marked (omega arith) (o ∙ w.if-is_counted.true));
      }
      | else-is_counted w ↦ record {
        few = omega (arith, w.count-is);
        counted = w.count-is ∙ rw w.if-is_counted.false at k;
        marked = rw w.pages-is (marks-kept s g t l m i v.marked (omega arith) (o ∙ w.if-is_counted.false));
      }
    ]

pub returns-clause-count_value : goal.returns-clause-count_value
returns-clause-count_value c =
    let s = c.args.staged in
    let z : length s.pages ≡ staged_limit = slots s _ c.well_formed.0 in
    let y : length (staged_pages s) ≡ min s.count staged_limit = simp (length-take, z) in
    c.loop-i.invariant.counted ∙ count-all s _ _ _ _ c.loop-i.i (omega (arith, c.min-end.ensures))

pub returns-clause-fact : goal.returns-clause-fact
returns-clause-fact c =
    let s = c.args.staged in
    let z : length s.pages ≡ staged_limit = slots s _ c.well_formed.0 in
    let y : length (staged_pages s) ≡ min s.count staged_limit = simp (length-take, z) in
    marks-all s _ _ _ _ c.loop-i.i c.loop-i.invariant.marked (omega (arith, c.min-end.ensures)) z
