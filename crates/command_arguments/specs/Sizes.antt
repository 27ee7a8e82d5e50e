-- How a text says a number of bytes: by decimal digits, with a letter after them if they count more than bytes.
use Rattle.std.specs.Prelude.{ℕ, ◌<◌, ◌*◌, ◌-◌, ◌^◌, ◌==◌, if◌then◌else◌, List, length, slice_index, take}
use Rattle.std.specs.Str.Parse.{IsNumeral, digits_value, without_leading_plus}

-- how many bytes a letter stands for: K, M, G and T for powers of 1,024, any other byte for none
abbrev pub letter_bytes : ℕ → ℕ
letter_bytes letter =
    if letter == 75 then 1024
    else (if letter == 77 then 1048576
    else (if letter == 71 then 1073741824
    else (if letter == 84 then 1099511627776 else 0)))

-- the last byte of a text
abbrev pub last_byte : List ℕ → ℕ
last_byte text = slice_index text (length text - 1)

-- what the digits of a text count: the bytes of its last letter, or single bytes
abbrev pub unit_of : List ℕ → ℕ
unit_of text = if letter_bytes (last_byte text) == 0 then 1 else letter_bytes (last_byte text)

-- the text before that letter, also without a plus at its begin
abbrev pub count_of : List ℕ → List ℕ
count_of text = if letter_bytes (last_byte text) == 0 then text else take (length text - 1) text

abbrev pub digits_of : List ℕ → List ℕ
digits_of text = without_leading_plus (count_of text)

-- the bytes that a text says
abbrev pub size_of : List ℕ → ℕ
size_of text = digits_value 10 (digits_of text) * unit_of text

-- a text says a number of bytes that has 64 bits
abbrev pub IsSize : List ℕ → Type 0
IsSize text = IsNumeral 10 (digits_of text) × (size_of text < 2 ^ 64)
