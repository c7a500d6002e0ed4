-- The ranges of numbers on the bench as document 02, No. 4 words them, without the mapping.
use Rattle.std.specs.Prelude.{ℕ, ◌+◌, ◌*◌, Bool, cond, ◌&&◌, ◌||◌, leb, ltb, eqb}
use Rattle.ads1299_registers.specs.Addresses.{channel_count}
use Rattle.lines.specs.Lines.{last_channel, last_number}

-- the bench has a channel of this number, 1 to 32
abbrev pub is_bench_channel : ℕ → Bool
is_bench_channel n = leb 1 n && leb n last_channel

-- the number names a converter as a whole, for its shared fields: 0, 33, 34 or 35
abbrev pub is_whole : ℕ → Bool
is_whole n = eqb n 0 || (ltb last_channel n && leb n last_number)

-- channel n is one of converter k's eight
abbrev pub has_channel : ℕ → ℕ → Bool
has_channel k n = ltb (channel_count * k) n && leb n (channel_count * k + channel_count)

-- gives the number that names converter k as a whole
abbrev pub whole_number : ℕ → ℕ
whole_number k = cond (eqb k 0) 0 (last_channel + k)

-- number n names converter k, by one of its channels or as a whole
abbrev pub names : ℕ → ℕ → Bool
names k n = cond (is_bench_channel n) (has_channel k n) (is_whole n && eqb n (whole_number k))
