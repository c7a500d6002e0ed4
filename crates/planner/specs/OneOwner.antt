-- What is claimed of the owner of what a request sets.
use Rattle.std.specs.Prelude.{ℕ, ◌≡◌, true, List, eqb}
use Rattle.cases.specs.Every.{every}
use Rattle.ads1299_settings.specs.Settings.{Setting}
use Rattle.request.specs.declared.Request.{Request}
use Rattle.planner.specs.Settings.{settings}
use Rattle.planner.specs.Refusals.{field_owner}

-- All that a request sets has one owner, the one that refusal 6 goes by.
abbrev pub OneOwner : Type 0
OneOwner =
    (owners : List ℕ) (r : Request)
    → every (λ (a : Setting). eqb (field_owner owners a.field r.channel) (field_owner owners r.field r.channel)) (settings r) ≡ true
