-- The ADS1299's registers by their data sheet names (document 01, "Registers").
use Rattle.std.specs.Prelude.{ℕ}

-- addresses 00h to 17h
abbrev pub register_count : ℕ
register_count = 24

-- channels 1 to 8
abbrev pub channel_count : ℕ
channel_count = 8

abbrev pub ID : ℕ
ID = 0x00

abbrev pub CONFIG1 : ℕ
CONFIG1 = 0x01

abbrev pub CONFIG2 : ℕ
CONFIG2 = 0x02

abbrev pub CONFIG3 : ℕ
CONFIG3 = 0x03

abbrev pub LOFF : ℕ
LOFF = 0x04

-- the first of CH1SET to CH8SET, which stand one after the other
abbrev pub CH1SET : ℕ
CH1SET = 0x05

abbrev pub BIAS_SENSP : ℕ
BIAS_SENSP = 0x0D

abbrev pub BIAS_SENSN : ℕ
BIAS_SENSN = 0x0E

abbrev pub LOFF_SENSP : ℕ
LOFF_SENSP = 0x0F

abbrev pub LOFF_SENSN : ℕ
LOFF_SENSN = 0x10

abbrev pub LOFF_FLIP : ℕ
LOFF_FLIP = 0x11

abbrev pub LOFF_STATP : ℕ
LOFF_STATP = 0x12

abbrev pub LOFF_STATN : ℕ
LOFF_STATN = 0x13

abbrev pub GPIO : ℕ
GPIO = 0x14

abbrev pub MISC1 : ℕ
MISC1 = 0x15

abbrev pub MISC2 : ℕ
MISC2 = 0x16

abbrev pub CONFIG4 : ℕ
CONFIG4 = 0x17
