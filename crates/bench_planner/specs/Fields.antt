-- A field's value on the bench, by the channel's number there.
use Rattle.std.specs.Prelude.{ℕ, Bool, cond, ◌&&◌}
use Rattle.ads1299_fields.specs.Names.{is_field, channel_field}
use Rattle.ads1299_settings.specs.Registers.{field_of}
use Rattle.lines.specs.Lines.{converter_of, local_channel}
use Rattle.lines.specs.Ranges.{is_bench_channel, is_whole}
use Rattle.bench.specs.declared.Bench.{Bench}
use Rattle.bench.specs.Bench.{at}

-- the field is to be named with this number: a channel's field with its channel, a shared one with a converter as a whole
abbrev pub takes_number : ℕ → ℕ → Bool
takes_number f n = cond (channel_field f) (is_bench_channel n) (is_whole n)

-- the field and the number name bits of a register of a converter
unfoldable pub bench_named : ℕ → ℕ → Bool
bench_named f n = is_field f && takes_number f n

-- gives the value of field f of number n
unfoldable pub bench_field : Bench → ℕ → ℕ → ℕ
bench_field b f n = field_of (at b (converter_of n)).registers f (local_channel n)
