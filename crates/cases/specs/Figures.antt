-- Tables of worked figures. A row carries what is given and what comes of it, so working it out anew must give the row again.
use Rattle.std.specs.Prelude.{List, map, ◌≡◌}

-- every row of the table is what the definitions give
abbrev pub Hold : {A : Type 0} → (A → A) → List A → Type 0
Hold worked_out table = map worked_out table ≡ table
