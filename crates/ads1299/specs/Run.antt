-- A run of bytes.
use Rattle.std.specs.Prelude.{ℕ, List, [], ◌∷◌}
use Rattle.ads1299.specs.declared.Converter.{Converter}
use Rattle.ads1299.specs.Step.{stepped}

-- gives the state after a list of bytes, one by one through the byte step
unfoldable pub after : Converter → List ℕ → Converter
after s [] = s
after s (b ∷ bs) = after (stepped s b).next bs

-- gives the bytes that went out meanwhile
unfoldable pub outs : Converter → List ℕ → List ℕ
outs s [] = []
outs s (b ∷ bs) = (stepped s b).out ∷ outs (stepped s b).next bs

-- gives the refusal numbers that they got
unfoldable pub run_refusals : Converter → List ℕ → List ℕ
run_refusals s [] = []
run_refusals s (b ∷ bs) = (stepped s b).refusal ∷ run_refusals (stepped s b).next bs
