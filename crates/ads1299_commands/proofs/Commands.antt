-- What a decoded byte can be.
use Prim.Native.Nat.{ℕ, ◌-◌, ◌%◌}
use mathlib.Core.Path.{◌≡◌, refl}
use mathlib.Core.Bool.{Bool, true, cond}
use native.Mathlib.Omega.{arith}
use borrow.Author.Tests.{le-leb}
use lib.Dec.{leb, eqb}
use Rattle.cases.proofs.Cases.{either}
use Rattle.ads1299_commands.specs.declared.Command.{Command}
use Rattle.ads1299_commands.specs.declared.Command.TheVariants.{Wakeup, Standby, Reset, Start, Stop, Rdatac, Sdatac, Rdata, Rreg, Wreg, Unlisted}
use Rattle.ads1299_commands.specs.Commands.{register_command, decoded}

-- the first address that a byte gives is at most 31
abbrev pub low_address : Command → Bool
low_address Wakeup = true
low_address Standby = true
low_address Reset = true
low_address Start = true
low_address Stop = true
low_address Rdatac = true
low_address Sdatac = true
low_address Rdata = true
low_address (Rreg a) = leb a 31
low_address (Wreg a) = leb a 31
low_address Unlisted = true

pub decoded_low : (b : ℕ) → low_address (decoded b) ≡ true
unfolding decoded register_command
decoded_low b =
    let P : Command → Type 0 = λ c. low_address c ≡ true in
    let low : leb (b % 32) 31 ≡ true = le-leb (b % 32) 31 (omega arith) in
    let named : (n : ℕ) (c d : Command) → P c → P d → P (cond (eqb b n) c d) = λ n c d x y. either P (eqb b n) (λ u. x) (λ u. y) in
    named 0x02 _ _ refl (named 0x04 _ _ refl (named 0x06 _ _ refl (named 0x08 _ _ refl (named 0x0A _ _ refl (named 0x10 _ _ refl
    (named 0x11 _ _ refl (named 0x12 _ _ refl
    (either P (eqb (b - b % 32) 0x20) (λ u. low) (λ u. either P (eqb (b - b % 32) 0x40) (λ u. low) (λ u. refl))))))))))
