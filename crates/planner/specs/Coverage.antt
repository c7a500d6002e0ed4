-- What is claimed of a request's runs: its settings say which registers they are.
use Rattle.std.specs.Prelude.{ℕ, ◌+◌, ◌≡◌, true, eqb, ltb}
use Rattle.cases.specs.Every.{every, any_of}
use Rattle.ads1299_registers.specs.Addresses.{register_count}
use Rattle.ads1299_fields.specs.Names.{takes_channel}
use Rattle.ads1299_fields.specs.Places.{place}
use Rattle.ads1299_settings.specs.Settings.{Setting}
use Rattle.request.specs.declared.Request.{Request}
use Rattle.planner.specs.Settings.{settings}
use Rattle.planner.specs.Runs.{Run, runs, in_runs}

-- every run lies among the registers; the runs have the register of every setting, and every register in them is a setting's
pub record Covered (r : Request) : Type 0 where
  pub inside : every (λ (x : Run). ltb (x.first + x.further) register_count) (runs r) ≡ true
  pub covers : every (λ (a : Setting). in_runs (runs r) (place a.field r.channel).register) (settings r) ≡ true
  pub needed : (i : ℕ) → in_runs (runs r) i ≡ true → any_of (λ (a : Setting). eqb (place a.field r.channel).register i) (settings r) ≡ true

-- A request with a channel that its field takes writes the registers of what it sets, and no others.
abbrev pub RunsCover : Type 0
RunsCover = (r : Request) → takes_channel r.field r.channel ≡ true → Covered r
