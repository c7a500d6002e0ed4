-- The registers' power-up values and writable masks, by address (document 01, "Registers").
use Rattle.std.specs.Prelude.{ℕ, List, [], ◌∷◌}

-- gives the power-up value of CH1SET to CH8SET (a fresh channel register): gain 24, inputs shorted. The register overview of document
-- 000 (its Table 11) decides, not its bit diagram, which shows input select 0; document 02, No. 2 overrides document 01's column
abbrev pub channel_power_up : ℕ
channel_power_up = 0x61

-- gives each register's power-up value; the ID's is given at power-up
unfoldable pub power_up : List ℕ
power_up =
    0x00  -- ID
    ∷ 0x96  -- CONFIG1
    ∷ 0xC0  -- CONFIG2
    ∷ 0x60  -- CONFIG3
    ∷ 0x00  -- LOFF
    ∷ channel_power_up  -- CH1SET
    ∷ channel_power_up  -- CH2SET
    ∷ channel_power_up  -- CH3SET
    ∷ channel_power_up  -- CH4SET
    ∷ channel_power_up  -- CH5SET
    ∷ channel_power_up  -- CH6SET
    ∷ channel_power_up  -- CH7SET
    ∷ channel_power_up  -- CH8SET
    ∷ 0x00  -- BIAS_SENSP
    ∷ 0x00  -- BIAS_SENSN
    ∷ 0x00  -- LOFF_SENSP
    ∷ 0x00  -- LOFF_SENSN
    ∷ 0x00  -- LOFF_FLIP
    ∷ 0x00  -- LOFF_STATP
    ∷ 0x00  -- LOFF_STATN
    ∷ 0x0F  -- GPIO
    ∷ 0x00  -- MISC1
    ∷ 0x00  -- MISC2
    ∷ 0x00  -- CONFIG4
    ∷ []

-- gives the bits of each register that a write changes
unfoldable pub masks : List ℕ
masks =
    0x00  -- ID
    ∷ 0x67  -- CONFIG1
    ∷ 0x17  -- CONFIG2
    ∷ 0x9E  -- CONFIG3
    ∷ 0xEF  -- LOFF
    ∷ 0xFF  -- CH1SET
    ∷ 0xFF  -- CH2SET
    ∷ 0xFF  -- CH3SET
    ∷ 0xFF  -- CH4SET
    ∷ 0xFF  -- CH5SET
    ∷ 0xFF  -- CH6SET
    ∷ 0xFF  -- CH7SET
    ∷ 0xFF  -- CH8SET
    ∷ 0xFF  -- BIAS_SENSP
    ∷ 0xFF  -- BIAS_SENSN
    ∷ 0xFF  -- LOFF_SENSP
    ∷ 0xFF  -- LOFF_SENSN
    ∷ 0xFF  -- LOFF_FLIP
    ∷ 0x00  -- LOFF_STATP
    ∷ 0x00  -- LOFF_STATN
    ∷ 0xFF  -- GPIO
    ∷ 0x20  -- MISC1
    ∷ 0x00  -- MISC2
    ∷ 0x0A  -- CONFIG4
    ∷ []
