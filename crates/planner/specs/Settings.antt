-- What a request sets, as a list: one field, or a channel's nine (document 02, No. 1). All that a request does goes by this list.
use Rattle.std.specs.Prelude.{Bool, cond, List, [], ◌∷◌, ℕ, zero, suc, ◌+◌, eqb, get_or}
use Rattle.cases.specs.Every.{every}
use Rattle.ads1299_fields.specs.Names.{whole_channel}
use Rattle.ads1299_fields.specs.Values.{legal}
use Rattle.ads1299_settings.specs.Settings.{Setting, any_sets}
use Rattle.request.specs.declared.Request.{Request}
use Rattle.request.specs.Requests.{value_count}

-- gives the setting that a request's value i makes, counted from 0: those of a whole channel are for fields 1 to 9, in that order
abbrev pub setting_at : Request → ℕ → Setting
setting_at r i = record { field = cond (eqb r.field whole_channel) (i + 1) r.field; value = get_or r.values i 0 }

-- gives so many settings of a request, from value i on
unfoldable pub settings_from : Request → ℕ → ℕ → List Setting
settings_from r i zero = []
settings_from r i (suc more) = setting_at r i ∷ settings_from r (i + 1) more

-- gives all settings of a request
unfoldable pub settings : Request → List Setting
settings r = settings_from r 0 (value_count r.field)

-- the request sets field f of channel n
abbrev pub sets_field : Request → ℕ → ℕ → Bool
sets_field r f n = any_sets r.channel (settings r) f n

-- every value is legal for its field
abbrev pub all_legal : List Setting → Bool
all_legal given = every (λ (a : Setting). legal a.field a.value) given
