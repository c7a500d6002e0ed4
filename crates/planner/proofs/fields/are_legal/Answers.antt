use Prim.Native.Nat.{ℕ, ◌≤◌, ◌+◌}
use mathlib.Core.Path.{◌≡◌, ap, ◌∙◌}
use native.Mathlib.Omega.{arith}
use lib.Seq.{length-take-le}
use lib.ListN.{length, take, get_or}
use Rattle.std.proofs.Common.{rules, get_or-take}
use Rattle.std.proofs.lemmas.Iterator.{YieldsList-from_slice}
use Rattle.std.proofs.lemmas.Iterator.Consumers.{YieldsList-from_enumerate}
use Rattle.std.proofs.lemmas.Iterator.Search.{all_from_yields_List}
use Rattle.std.specs.Slice.Iter.{iter_rest}
use Rattle.ads1299_fields.specs.Values.{legal}
use Rattle.request.proofs.Reading.{few_values}
use Rattle.planner.specs.Settings.{setting_at, settings, settings_from, all_legal}
use Rattle.planner.proofs.Settings.{legal_all}
use Rattle.planner.proofs.fields.are_legal.Goals as goal

start : (k : ℕ) → k ≡ 0 + k
start k = omega arith

pub returns : goal.returns
unfolding settings
returns c =
    let r = c.args.request in
    let n = c.count_values-count in
    let all_values : length r.values ≡ 9 = search (rules, c.well_formed) in
    let le : n.result ≤ length r.values = omega (arith, all_values, n.ensures, (few_values r.field).1) in
    let size = length-take-le n.result r.values le in
    all_from_yields_List (λ (p : ℕ × ℕ). legal (setting_at r p.0).field p.1) _ _ _ c.all.ensures.ran
    (YieldsList-from_enumerate (YieldsList-from_slice (take n.result r.values) (ap iter_rest c.enumerate.ensures.source ∙ c.iter.ensures.rest)) c.enumerate.ensures.count)
    (λ x b q k. search (rules, k))
    ∙ legal_all r (take n.result r.values) 0 (λ k h. get_or-take n.result r.values k 0 (omega (arith, h, size)) ∙ ap (λ (j : ℕ). get_or r.values j 0) (start k))
    ∙ ap (λ (m : ℕ). all_legal (settings_from r 0 m)) (size ∙ n.ensures)
