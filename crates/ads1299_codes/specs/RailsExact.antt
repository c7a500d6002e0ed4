-- The claim that the rails are the two ends of the range: document 01's codes, and document 000's words 800000h and 7FFFFFh, at which
-- the converter's output clips.
use Rattle.std.specs.Prelude.{ℕ, ◌<◌, ◌≡◌, true, false, [], ◌∷◌, ℤ}
use Rattle.std.proofs.Math.IntN.{suc_ℤ, pred_ℤ}
use Rattle.ads1299_codes.specs.Codes.{lowest, highest, in_range, code_of}
use Rattle.ads1299_codes.specs.Words.{word}
use Rattle.ads1299_codes.specs.Rails.{rail_number, stands_for, rail_of}
use Rattle.ads1299_codes.specs.declared.Rail.{Rail}
use Rattle.ads1299_codes.specs.declared.Rail.TheVariants.{Lowest, Highest}

-- a rail is that of one code alone and of that code's three bytes; the code is in range and the integer beyond it is not, so it is an end
pub record OnlyAt (rail : Rail) (end beyond : ℤ) (high middle low : ℕ) : Type 0 where
  pub there : rail_of end ≡ rail
  pub nowhere_else : (z : ℤ) → rail_of z ≡ rail → z ≡ end
  pub in_range_lem : in_range end ≡ true
  pub none_beyond : in_range beyond ≡ false
  pub bytes_there : rail_of (code_of (word high middle low)) ≡ rail
  pub no_other_bytes : (a b c : ℕ) → a < 256 → b < 256 → c < 256 → rail_of (code_of (word a b c)) ≡ rail
      → a ∷ b ∷ c ∷ [] ≡ high ∷ middle ∷ low ∷ []

-- A code's rail is Lowest exactly at the lowest code and Highest exactly at the highest, it is the one that stands for the code, and its number tells it from the others.
pub record RailsExact : Type 0 where
  pub at_lowest : OnlyAt Lowest lowest (pred_ℤ lowest) 0x80 0x00 0x00
  pub at_highest : OnlyAt Highest highest (suc_ℤ highest) 0x7F 0xFF 0xFF
  pub stands_for_it : (z : ℤ) → stands_for (rail_of z) z ≡ true
  pub stands_alone : (rail : Rail) (z : ℤ) → stands_for rail z ≡ true → rail_of z ≡ rail
  pub number_names : (rail other : Rail) → rail_number rail ≡ rail_number other → rail ≡ other
