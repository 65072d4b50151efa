use mathlib.Core.Path.{◌≡◌, refl, ap, ◌∙◌}
use Prim.Native.Nat.{ℕ}
use lib.ListN.{length, take}
use mathlib.Core.Bool.{Bool, true, false, ◌&&◌}
use mathlib.Core.List.{List, [], ◌∷◌}
use Rattle.std.specs.List.{list_all}
use Rattle.std.proofs.Common.{rules, tests}
use Rattle.std.proofs.lemmas.Iterator.{YieldsList-from_slice}
use Rattle.std.proofs.lemmas.Iterator.Search.{all_from_yields_List}
use Rattle.std.proofs.lemmas.List.{take_min}
use Rattle.le.specs.Choice.{both}
use Rattle.pager_state.specs.World.{staged_limit}
use Rattle.pager_state.specs.Overlay.{staged_pages}
use Rattle.pager_state.specs.Steps.{stands_before, all_before}
use Rattle.pager_state.proofs.Held.{slots}
use Rattle.pager_judge.proofs.all_stand_before.Goals as goal

both-and : (a b : Bool) → (a && b) ≡ both a b
both-and true b = refl
both-and false b = refl

all-is : (t : List ℕ) (len : ℕ) (ns : List ℕ) → list_all (λ n. stands_before t n len) ns ≡ all_before t len ns
unfolding all_before
all-is t len [] = refl
all-is t len (n ∷ ns) = both-and (stands_before t n len) (list_all (λ k. stands_before t k len) ns) ∙ ap (both (stands_before t n len)) (all-is t len ns)

pub returns : goal.returns
returns c =
    let s = c.args.staged in
    let t = c.args.table.now in
    let z : length s.pages ≡ staged_limit = slots s _ c.well_formed.0 in
    let e : take c.min.result s.pages ≡ staged_pages s = rw c.min.ensures (rw z at (take_min s.count s.pages)) in
    let a : c.all.result ≡ list_all (λ n. stands_before t n c.args.len) (take c.min.result s.pages) =
    all_from_yields_List (λ n. stands_before t n c.args.len) _ _ c.all.result c.all.ensures.ran (YieldsList-from_slice _ c.iter.ensures.rest) (λ x b q k. search (rules, tests)) in
    a ∙ rw e (all-is t c.args.len (staged_pages s))
