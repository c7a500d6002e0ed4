-- A request's settings, from the request: what holds for the one field, or for each of a channel's nine, holds for them all.
use Prim.Native.Nat.{ℕ, zero, suc, ◌+◌, ◌-◌, ◌≤◌, ◌<◌}
use mathlib.Core.Path.{◌≡◌, refl, sym, ◌∙◌, ap}
use mathlib.Core.Bool.{Bool, true, false, false≢true, ◌&&◌}
use mathlib.Core.List.{List, [], ◌∷◌}
use native.Mathlib.Omega.{arith}
use borrow.Author.Tests.{eqb-true, eqb-false, eq-eqb, ne_eqb}
use lib.Dec.{eqb}
use lib.ListN.{length, get_or}
use Rattle.std.specs.List.{list_all, enumerate_from}
use Rattle.cases.specs.Every.{every, any_of}
use Rattle.cases.proofs.Cases.{split, and_both}
use Rattle.ads1299_registers.specs.Channels.{is_channel}
use Rattle.ads1299_fields.specs.Names.{whole_channel, is_field, known_field, takes_channel, named}
use Rattle.ads1299_fields.specs.Values.{legal}
use Rattle.ads1299_settings.specs.Settings.{Setting, Values, with_value, with_values, all_settable, any_sets}
use Rattle.ads1299_settings.proofs.Registers.{legal_settable}
use Rattle.ads1299_settings.proofs.Settings.{unset_values}
use Rattle.request.specs.declared.Request.{Request}
use Rattle.request.specs.Requests.{value_count}
use Rattle.planner.specs.Settings.{setting_at, settings_from, settings, all_legal}
use Rattle.parties.specs.Owners.{owner_of}
use Rattle.planner.specs.Refusals.{field_owner}
use Rattle.planner.specs.OneOwner.{OneOwner}

-- the fields of a whole channel, in the order of their values
abbrev pub channel_fields : List ℕ
channel_fields = 1 ∷ 2 ∷ 3 ∷ 4 ∷ 5 ∷ 6 ∷ 7 ∷ 8 ∷ 9 ∷ []

module _ (r : Request) (test : ℕ → Bool) where
  pub every_field : (eqb r.field whole_channel ≡ true → every test channel_fields ≡ true)
      → (eqb r.field whole_channel ≡ false → test r.field ≡ true)
      → every (λ (a : Setting). test a.field) (settings r) ≡ true
  unfolding settings settings_from
  every_field whole one = split (eqb r.field whole_channel) (λ w. rw (w, w) (whole w)) (λ w. rw (w, w, one w))

  pub some_field : (eqb r.field whole_channel ≡ true → any_of test channel_fields ≡ true)
      → (eqb r.field whole_channel ≡ false → test r.field ≡ true)
      → any_of (λ (a : Setting). test a.field) (settings r) ≡ true
  unfolding settings settings_from
  some_field whole one = split (eqb r.field whole_channel) (λ w. rw (w, w) (whole w)) (λ w. rw (w, w, one w))

-- the field of a whole channel takes the channel that its fields take
pub whole_takes : (r : Request) → eqb r.field whole_channel ≡ true → takes_channel r.field r.channel ≡ true → is_channel r.channel ≡ true
whole_takes r w h = rw w at h

one_known : (f : ℕ) → eqb f whole_channel ≡ false → known_field f ≡ true → is_field f ≡ true
one_known f w h = split (is_field f) (λ e. e) (λ e. absurd (false≢true (sym w ∙ rw e at h)))

-- what a request sets has a name, where its field is known and takes its channel
pub all_named : (r : Request) → known_field r.field ≡ true → takes_channel r.field r.channel ≡ true
    → every (λ (a : Setting). named a.field r.channel) (settings r) ≡ true
unfolding named
all_named r known takes =
    every_field r (λ f. named f r.channel)
    (λ w. rw (whole_takes r w takes))
    (λ w. rw (one_known r.field w known, takes))

-- all that a request sets has one owner
pub one_owner_lem : OneOwner
one_owner_lem owners r =
    every_field r (λ f. eqb (field_owner owners f r.channel) (field_owner owners r.field r.channel))
    (λ w. rw (eqb-true r.field whole_channel w, eq-eqb (owner_of owners r.channel) (owner_of owners r.channel) refl))
    (λ w. eq-eqb (field_owner owners r.field r.channel) (field_owner owners r.field r.channel) refl)

-- legal values of named fields can be set
pub all_settable_lem : (n : ℕ) (given : List Setting) → every (λ (a : Setting). named a.field n) given ≡ true → all_legal given ≡ true → all_settable n given ≡ true
all_settable_lem n [] names values = refl
all_settable_lem n (a ∷ rest) names values =
    let k = and_both (named a.field n) (every (λ (a : Setting). named a.field n) rest) names in
    let l = and_both (legal a.field a.value) (all_legal rest) values in
    rw (legal_settable a.field n a.value k.0 l.0, all_settable_lem n rest k.1 l.1)

index : (i k : ℕ) → i + suc k ≡ i + 1 + k
index i k = omega arith

-- the definition goes setting by setting, the code asks std's test of all values with their places
pub legal_all : (r : Request) (xs : List ℕ) (i : ℕ) → ((k : ℕ) → k < length xs → get_or xs k 0 ≡ get_or r.values (i + k) 0)
    → list_all (λ (p : ℕ × ℕ). legal (setting_at r p.0).field p.1) (enumerate_from i xs) ≡ all_legal (settings_from r i (length xs))
unfolding settings_from
legal_all r [] i same = refl
legal_all r (x ∷ xs) i same =
    let e : x ≡ get_or r.values i 0 = same 0 (omega arith) ∙ ap (λ (k : ℕ). get_or r.values k 0) (omega arith) in
    ap (λ (v : ℕ). legal (setting_at r i).field v && list_all (λ (p : ℕ × ℕ). legal (setting_at r p.0).field p.1) (enumerate_from (i + 1) xs)) e
    ∙ ap (λ b. legal (setting_at r i).field (setting_at r i).value && b) (legal_all r xs (i + 1) (λ k h. same (suc k) (omega (arith, h)) ∙ ap (λ (j : ℕ). get_or r.values j 0) (index i k)))

-- the settings one by one, as the code goes through them
pub settings_start : (r : Request) (count : ℕ) → count ≡ value_count r.field → settings r ≡ settings_from r 0 (count - 0)
unfolding settings
settings_start r count e =
    let z : value_count r.field ≡ count - 0 = omega (arith, e) in
    ap (settings_from r 0) z

pub settings_step : (r : Request) (count i : ℕ) → i < count → settings_from r i (count - i) ≡ setting_at r i ∷ settings_from r (i + 1) (count - (i + 1))
unfolding settings_from
settings_step r count i h =
    let e : count - i ≡ suc (count - (i + 1)) = omega arith in
    ap (settings_from r i) e

pub settings_end : (r : Request) (count i : ℕ) → count ≤ i → settings_from r i (count - i) ≡ []
unfolding settings_from
settings_end r count i h =
    let e : count - i ≡ 0 = omega arith in
    ap (settings_from r i) e

-- two values are for two fields
later : (r : Request) (i j : ℕ) → i < j → j < value_count r.field → eqb (setting_at r j).field (setting_at r i).field ≡ false
later r i j lt h =
    split (eqb r.field whole_channel)
    (λ w. rw w (ne_eqb (j + 1) (i + 1) (λ z. omega arith)))
    (λ w. absurd (omega (arith, rw w at h)))

unset_later : (r : Request) (n i more j : ℕ) → i < j → j + more ≤ value_count r.field → any_sets n (settings_from r j more) (setting_at r i).field n ≡ false
unfolding settings_from
unset_later r n i zero j lt h = refl
unset_later r n i (suc more) j lt h = rw (later r i j lt (omega arith), unset_later r n i more (j + 1) (omega arith) (omega arith))

-- each value stands in its field in the end
value_from : (r : Request) (n i more j : ℕ) (u : Values) → j ≤ i → i < j + more → j + more ≤ value_count r.field
    → with_values u n (settings_from r j more) (setting_at r i).field n ≡ (setting_at r i).value
unfolding settings_from with_values
value_from r n i zero j u le lt h = absurd (omega arith)
value_from r n i (suc more) j u le lt h =
    split (eqb i j)
    (λ e.
    let z = eqb-true i j e in
    rw z
    (unset_values (settings_from r (j + 1) more) (with_value u n (setting_at r j)) n (setting_at r j).field n (unset_later r n j more (j + 1) (omega arith) (omega arith))
    ∙ rw (eq-eqb (setting_at r j).field (setting_at r j).field refl, eq-eqb n n refl)))
    (λ e. value_from r n i more (j + 1) (with_value u n (setting_at r j)) (omega (arith, eqb-false i j e)) (omega arith) (omega arith))

pub value_at : (r : Request) (n i : ℕ) (u : Values) → i < value_count r.field
    → with_values u n (settings r) (setting_at r i).field n ≡ (setting_at r i).value
unfolding settings
value_at r n i u lt = value_from r n i (value_count r.field) 0 u (omega arith) (omega arith) (omega arith)

-- the field of each value passes a test that every setting's passes
at_index : (r : Request) (test : Setting → Bool) (i more j : ℕ) → j ≤ i → i < j + more → every test (settings_from r j more) ≡ true → test (setting_at r i) ≡ true
unfolding settings_from
at_index r test i zero j le lt e = absurd (omega arith)
at_index r test i (suc more) j le lt e =
    let b = and_both (test (setting_at r j)) (every test (settings_from r (j + 1) more)) e in
    split (eqb i j)
    (λ q. rw (eqb-true i j q) b.0)
    (λ q. at_index r test i more (j + 1) (omega (arith, eqb-false i j q)) (omega arith) b.1)

pub name_at : (r : Request) (n : ℕ) → every (λ (a : Setting). named a.field n) (settings r) ≡ true → (i : ℕ) → i < value_count r.field
    → named (setting_at r i).field n ≡ true
unfolding settings
name_at r n names i lt = at_index r (λ (a : Setting). named a.field n) i (value_count r.field) 0 (omega arith) (omega arith) names
