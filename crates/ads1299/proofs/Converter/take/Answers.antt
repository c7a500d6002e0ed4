use Prim.Native.Nat.{ℕ}
use mathlib.Core.Bool.{true, false}
use mathlib.Core.List.{List}
use mathlib.Core.Path.{◌≡◌, ◌∙◌}
use lib.IntN.{ℤ}
use Rattle.ads1299_frame.specs.Frame.{frame_of}
use Rattle.ads1299.specs.declared.Converter.{Converter}
use Rattle.ads1299.specs.State.{with_registers, with_latest}
use Rattle.ads1299.specs.Output.{loaded}
use Rattle.ads1299.specs.Sample.{with_status, framed, taken}
use Rattle.ads1299.proofs.Converter.take.Goals as goal

module _ (s : Converter) (codes : List ℤ) (p n : ℕ) (registers latest : List ℕ)
    (r : registers ≡ with_status s.registers p n) (f : latest ≡ frame_of registers codes p n) where
  -- in continuous mode the new frame is loaded
  loads : s.continuous ≡ true → loaded (with_latest (with_registers s registers) latest) ≡ taken s codes p n
  unfolding taken framed
  loads c = rw (f, r, c)

  keeps : s.continuous ≡ false → with_latest (with_registers s registers) latest ≡ taken s codes p n
  unfolding taken framed
  keeps c = rw (f, r, c)

pub returns-then-next : goal.returns-then-next
returns-then-next c = c.load.ensures ∙ loads c.args.self _ _ _ _ _ c.with_status-registers.ensures c.build.ensures c.if-next.true

pub returns-else-next : goal.returns-else-next
returns-else-next c = keeps c.args.self _ _ _ _ _ c.with_status-registers.ensures c.build.ensures c.if-next.false
