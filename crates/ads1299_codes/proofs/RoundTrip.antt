-- Codes and three bytes determine each other.
use Prim.Native.Nat.{◌%◌}
use mathlib.Core.Path.{◌≡◌, ◌∙◌, ap}
use native.Mathlib.Omega.{arith}
use Rattle.ads1299_codes.specs.Codes.{word_count, word_of, code_of}
use Rattle.ads1299_codes.specs.Words.{word, word_bytes}
use Rattle.ads1299_codes.specs.RoundTrip.{Codec}
use Rattle.ads1299_codes.proofs.Codes.{word_lt, code_word, word_code, code_range}
use Rattle.ads1299_codes.proofs.Words.{word_bytes_lem, bytes_word, word_small}

pub codec : Codec
codec = record {
  word_lt = word_lt;
  code_range = code_range;
  code_word = code_word;
  word_code = word_code;
  word_bytes_lem = λ w h. word_bytes_lem w ∙ omega arith;
  bytes_word = bytes_word;
  code_bytes = λ z r. let l = word_lt z in let e : word_of z % word_count ≡ word_of z = omega arith in ap code_of (word_bytes_lem (word_of z) ∙ e) ∙ code_word z r;
  bytes_code = λ a b c ha hb hc. ap word_bytes (word_code (word a b c) (word_small a b c ha hb hc)) ∙ bytes_word a b c ha hb hc;
}
