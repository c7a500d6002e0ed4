-- A plan's bytes, one by one through the byte step, lead to the state that was planned.
use Rattle.std.specs.Prelude.{Option, None}
use Prim.Native.Nat.{ℕ, ◌+◌}
use mathlib.Core.Path.{◌≡◌, refl, sym, ◌∙◌, ap}
use mathlib.Core.Bool.{Bool, true, false, cond, not, ◌||◌, false≢true}
use mathlib.Core.List.{List, [], ◌∷◌, ◌++◌}
use borrow.Author.Tests.{eqb-true}
use lib.Dec.{eqb, ltb}
use lib.ListN.{length, get_or}
use Rattle.cases.specs.Every.{every}
use Rattle.cases.proofs.Cases.{split, either}
use Rattle.cases.proofs.Every.{follows}
use Rattle.bits.proofs.Masks.{passes_same}
use Rattle.refusal.specs.First.{accepted}
use Rattle.ads1299_registers.specs.Addresses.{ID, register_count}
use Rattle.ads1299_registers.specs.Table.{masks}
use Rattle.ads1299_serial.specs.declared.Phase.{Phase}
use Rattle.ads1299_serial.specs.declared.Phase.TheVariants.{Waiting}
use Rattle.ads1299_serial.specs.Output.{valid_place}
use Rattle.parties.specs.Owners.{known_owners}
use Rattle.ads1299.specs.declared.Converter.{Converter}
use Rattle.ads1299.specs.PowerUp.{valid_id}
use Rattle.ads1299.specs.State.{state}
use Rattle.ads1299.specs.Formed.{Formed}
use Rattle.ads1299.specs.Run.{after}
use Rattle.ads1299.proofs.ValidState.{parts}
use Rattle.ads1299_fields.specs.Places.{place}
use Rattle.ads1299_settings.specs.Settings.{Setting}
use Rattle.ads1299_settings.proofs.Masks.{masks_bytes}
use Rattle.ads1299_settings.proofs.Settings.{register_kept}
use Rattle.ads1299_fields.specs.Names.{whole_channel}
use Rattle.request.specs.declared.Request.{Request}
use Rattle.planner.specs.Submission.{Submission}
use Rattle.planner.specs.Settings.{settings}
use Rattle.planner.specs.Runs.{Run, run, channel_register, channel_bits, runs, writing_all, in_runs}
use Rattle.planner.specs.Plan.{entering, leaving, around, registers_after, plan_writing, plan_of}
use Rattle.planner.specs.Planned.{refusal_of, changed, plan, planned}
use Rattle.planner.proofs.Accepted.{next, Passed, passed, all_written}
use Rattle.planner.proofs.Coverage.{runs_cover}
use Rattle.demand2.proofs.Modes.{after_append, after_valid, waits_valid, enters, leaves}
use Rattle.demand2.proofs.Runs.{Leads, sent_runs}

-- runs of registers around which the modes are left and gone back to
module _ (l w t : List ℕ) (o : Option ℕ) (c b v : Bool) (f : List ℕ) (id : valid_id (get_or l ID 0) ≡ true) (known : known_owners w ≡ true) (place_valid : valid_place o ≡ true) where
  sent_around : (m : List ℕ) → length m ≡ register_count → (x : Run) (more : List Run)
      → every (λ (y : Run). ltb (y.first + y.further) register_count) (x ∷ more) ≡ true → Leads l m (x ∷ more)
      → after (state l w t o c b v f Waiting) (around b c (writing_all m (x ∷ more))) ≡ state m w t None c b v f Waiting
  sent_around m size x more inside leads =
      let s = state l w t o c b v f Waiting in
      let body = writing_all m (x ∷ more) in
      let o' = cond (b || c) None o in
      let in_place : valid_place o' ≡ true = either (λ (x : Option ℕ). valid_place x ≡ true) (b || c) (λ e. refl) (λ e. place_valid) in
      let awake = waits_valid l w t v f id known o' false false in_place in
      let wrote = sent_runs m size w t v f more o' x l inside leads awake in
      let still = rw wrote at (after_valid body (state l w t o' false false v f Waiting) awake) in
      after_append (entering b c ++ body) s (leaving b c)
      ∙ ap (λ (x : Converter). after x (leaving b c))
      (after_append (entering b c) s body ∙ ap (λ (x : Converter). after x body) (enters l w t v f id known o c b place_valid) ∙ wrote)
      ∙ leaves m w t v f (parts _ still).id known c b

module _ (s : Converter) (h : Formed s) (x : Submission) (p : Passed s x) where
  abbrev new : List ℕ
  new = registers_after s.registers x.request

  new_size : length new ≡ register_count
  unfolding registers_after
  new_size = (all_written s x h p).size ∙ h.registers.size

  -- a register that no run has is none in which a field is set
  unset : (i : ℕ) → in_runs (runs x.request) i ≡ false
      → every (λ (a : Setting). not (eqb (place a.field x.request.channel).register i)) (settings x.request) ≡ true
  unset i e =
      follows (λ (a : Setting). in_runs (runs x.request) (place a.field x.request.channel).register)
      (λ (a : Setting). not (eqb (place a.field x.request.channel).register i))
      (λ a k. split (eqb (place a.field x.request.channel).register i)
      (λ q. absurd (false≢true (sym e ∙ rw (← eqb-true (place a.field x.request.channel).register i q) k)))
      (λ q. rw q))
      (settings x.request) (runs_cover x.request p.takes).covers

  leads : Leads s.registers new (runs x.request)
  unfolding registers_after
  leads =
      let w = all_written s x h p in
      record {
        size = h.registers.size;
        passes = w.passes h.registers.bytes;
        stays = λ i. passes_same (get_or masks i 0) (get_or new i 0) (masks_bytes i) (w.bytes h.registers.bytes i);
        rest = λ i e. sym (register_kept (settings x.request) s.registers x.request.channel i h.registers.size p.set (unset i e));
      }

-- a request has a run
some_run : (r : Request) → (x : Run) × (more : List Run) × (runs r ≡ x ∷ more)
some_run r =
    split (eqb r.field whole_channel)
    (λ w. (run (channel_register r.channel) 0, channel_bits ∷ [], rw w))
    (λ w. (run (place r.field r.channel).register 0, [], rw w))

pub sent_plan : (s : Converter) → Formed s → (x : Submission) → after s (plan s x) ≡ next s x
unfolding plan planned changed plan_of plan_writing after
sent_plan s h x =
    split (accepted (refusal_of s x))
    (λ e.
    let p = passed s x e in
    let v = parts s p.state in
    let u = some_run x.request in
    let at : Phase → Converter = state s.registers s.owners s.latest s.output s.continuous s.standby s.converting s.shifting in
    rw (e, next)
    (ap (λ (m : Phase). after (at m) (plan_of s x.request)) p.waits
    ∙ ap (λ (all : List Run). after (at Waiting) (around s.standby s.continuous (writing_all (new s h x p) all))) u.2
    ∙ sent_around s.registers s.owners s.latest s.output s.continuous s.standby s.converting s.shifting v.id v.owners v.place
    (new s h x p) (new_size s h x p) u.0 u.1 (rw u.2 at (runs_cover x.request p.takes).inside) (rw u.2 at (leads s h x p))
    ∙ rw p.waits))
    (λ e. rw (e, next))
