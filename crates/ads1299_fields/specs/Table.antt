-- The fields that have a place in the registers, one row each (document 01, "Fields a slip can name").
use Rattle.std.specs.Prelude.{List, [], ◌∷◌, ℕ, Option, None, Some, cond, eqb, get_or}
use Rattle.ads1299_registers.specs.Addresses.{CONFIG1, CONFIG2, CONFIG3, LOFF, CH1SET, BIAS_SENSP, BIAS_SENSN, LOFF_SENSP, LOFF_SENSN, LOFF_FLIP, MISC1, CONFIG4}
use Rattle.ads1299_fields.specs.Names.{is_field}
use Rattle.ads1299_fields.specs.declared.Entry.{Entry}

-- a field: its register and lowest bit, of channel 1 if it is a channel's; how far each moves from one channel to the next; its
-- width; and the one value of that width that is refused
pub record Row : Type 0 where
  pub register : ℕ
  pub register_step : ℕ
  pub bit : ℕ
  pub bit_step : ℕ
  pub width : ℕ
  pub refused : ℕ

-- gives the row with these columns
abbrev pub row : ℕ → ℕ → ℕ → ℕ → ℕ → ℕ → Row
row r rs b bs w x = record { register = r; register_step = rs; bit = b; bit_step = bs; width = w; refused = x }

-- stands where every value of the width is legal: no width holds this number
abbrev pub none_refused : ℕ
none_refused = 256

-- the row of a number that is no field's
abbrev pub no_row : Row
no_row = row 0 0 0 0 0 0

-- gives the rows by field number; 0 is no field
unfoldable pub table : List Row
table =
    no_row
    ∷ row CH1SET 1 7 0 1 none_refused  -- 1 power-down, PDn
    ∷ row CH1SET 1 4 0 3 7  -- 2 gain, GAINn
    ∷ row CH1SET 1 3 0 1 none_refused  -- 3 SRB2
    ∷ row CH1SET 1 0 0 3 none_refused  -- 4 input, MUXn
    ∷ row BIAS_SENSP 0 0 1 1 none_refused  -- 5 BIASPn
    ∷ row BIAS_SENSN 0 0 1 1 none_refused  -- 6 BIASNn
    ∷ row LOFF_SENSP 0 0 1 1 none_refused  -- 7 LOFFPn
    ∷ row LOFF_SENSN 0 0 1 1 none_refused  -- 8 LOFFMn
    ∷ row LOFF_FLIP 0 0 1 1 none_refused  -- 9 LOFF_FLIPn
    ∷ row CONFIG1 0 6 0 1 none_refused  -- 10 read-back, DAISY_EN
    ∷ row CONFIG1 0 5 0 1 none_refused  -- 11 clock output, CLK_EN
    ∷ row CONFIG1 0 0 0 3 7  -- 12 data rate, DR
    ∷ row CONFIG2 0 4 0 1 none_refused  -- 13 INT_CAL
    ∷ row CONFIG2 0 2 0 1 none_refused  -- 14 CAL_AMP
    ∷ row CONFIG2 0 0 0 2 2  -- 15 CAL_FREQ
    ∷ row CONFIG3 0 7 0 1 none_refused  -- 16 PD_REFBUF
    ∷ row CONFIG3 0 4 0 1 none_refused  -- 17 BIAS_MEAS
    ∷ row CONFIG3 0 3 0 1 none_refused  -- 18 BIASREF_INT
    ∷ row CONFIG3 0 2 0 1 none_refused  -- 19 PD_BIAS
    ∷ row CONFIG3 0 1 0 1 none_refused  -- 20 BIAS_LOFF_SENS
    ∷ row (LOFF) 0 5 0 3 none_refused  -- 21 comparator level, COMP_TH
    ∷ row (LOFF) 0 2 0 2 none_refused  -- 22 lead-off current, ILEAD_OFF
    ∷ row (LOFF) 0 0 0 2 none_refused  -- 23 lead-off frequency, FLEAD_OFF
    ∷ row MISC1 0 5 0 1 none_refused  -- 24 SRB1
    ∷ row CONFIG4 0 3 0 1 none_refused  -- 25 single shot, SINGLE_SHOT
    ∷ row CONFIG4 0 1 0 1 none_refused  -- 26 comparators on, PD_LOFF_COMP
    ∷ []

-- gives the field's row
unfoldable pub row_of : ℕ → Row
row_of f = get_or table f no_row

-- gives a row as the code holds it
abbrev pub entry_of : Row → Entry
entry_of r =
    record {
      register = r.register;
      register_step = r.register_step;
      bit = r.bit;
      bit_step = r.bit_step;
      width = r.width;
      refused = cond (eqb r.refused none_refused) None (Some r.refused);
    }

-- gives a row with this value refused
abbrev pub refusing : Entry → ℕ → Entry
refusing e value =
    record { register = e.register; register_step = e.register_step; bit = e.bit; bit_step = e.bit_step; width = e.width; refused = Some value }

-- gives the field's row as the code holds it; none where the number is no field's
abbrev pub entry_at : ℕ → Option Entry
entry_at f = cond (is_field f) (Some (entry_of (row_of f))) None
