-- Reading: fields are taken in order, and the first that can't be read is refused, with why and where.
use Rattle.std.specs.Prelude.{ℕ, zero, suc, ◌+◌, ◌-◌, ◌*◌, ◌^◌, List, [], ◌∷◌, length, take, drop, Bool, true, false, nat_lt, nat_le, ◌==◌, ◌||◌, if◌then◌else◌, Result, Ok, Err, Option, Some, None}
use Rattle.std.specs.Str.{is_utf8}
use Rattle.wasm_lang.specs.declared.fault.Fault.{Fault}
use Rattle.wasm_lang.specs.declared.fault.Row.{Row}
use Rattle.wasm_lang.specs.declared.fault.Row.TheVariants.{Truncated, Leb, SectionSize, UnknownByte, Utf8, Float, Limit}
use Rattle.wasm_lang.specs.declared.fault.NumberFault.{NumberFault}
use Rattle.wasm_lang.specs.declared.fault.NumberFault.TheVariants.{Illegal, Ends}
use Rattle.wasm_lang.specs.declared.types.ValType.{ValType}
use Rattle.wasm_lang.specs.declared.types.ValType.TheVariants.{I32, I64}

-- the bytes from a place on, up to the end of the part that is read
pub record Input : Type 0 where
  pub at : ℕ
  pub bytes : List ℕ

-- a value and what follows it, or the fault
abbrev pub Field : Type 0 → Type 0
Field X = Result (X × Input) Fault

infixl 10 ◌>>=◌
abbrev pub ◌>>=◌ : {A B : Type 0} → Result A Fault → (A → Result B Fault) → Result B Fault
(Ok x) >>= f = f x
(Err e) >>= f = Err e

abbrev pub fault : {X : Type 0} → Row → ℕ → Result X Fault
fault row at = Err (record { row = row; at = at })

-- on, where this holds
abbrev pub expects : Bool → Row → ℕ → Result (Unit {0}) Fault
expects true row at = Ok tt
expects false row at = fault row at

-- ---- numbers

abbrev pub with_low : ℕ → Result (ℕ × List ℕ) NumberFault → Result (ℕ × List ℕ) NumberFault
with_low b (Ok x) = Ok (2 ^ 7 * x.0 + (b - 2 ^ 7), x.1)
with_low b (Err e) = Err e

-- the unsigned number of so many bits that the bytes begin with, and the bytes after it
abbrev pub unsigned_at : ℕ → List ℕ → Result (ℕ × List ℕ) NumberFault
unsigned_at bits [] = Err Ends
unsigned_at bits (b ∷ bs) =
    if nat_lt b (2 ^ 7)
    then (if nat_lt b (2 ^ bits) then Ok (b, bs) else Err Illegal)
    else (if nat_lt 7 bits then with_low b (unsigned_at (bits - 7) bs) else Err Illegal)

-- the word of so many bits whose signed number the bytes begin with
abbrev pub integer_at : ℕ → List ℕ → Result (ℕ × List ℕ) NumberFault
integer_at bits [] = Err Ends
integer_at bits (b ∷ bs) =
    if nat_lt b (2 ^ 6)
    then (if nat_lt b (2 ^ (bits - 1)) then Ok (b, bs) else Err Illegal)
    else (if nat_lt b (2 ^ 7)
    then (if nat_le (2 ^ 7) (b + 2 ^ (bits - 1)) then Ok (b + 2 ^ bits - 2 ^ 7, bs) else Err Illegal)
    else (if nat_lt 7 bits then with_low b (integer_at (bits - 7) bs) else Err Illegal))

-- ---- fields

-- where a field that isn't finished is refused: at the input's end, or at the field where its section ends before that
abbrev pub past : Row → Input → ℕ
past Truncated i = i.at + length i.bytes
past _ i = i.at

-- a byte
abbrev pub byte_field : Row → Input → Field ℕ
byte_field row i = first i.bytes
  where
    first : List ℕ → Field ℕ
    first [] = fault row (past row i)
    first (b ∷ bs) = Ok (b, record { at = i.at + 1; bytes = bs })

abbrev pub number_field : Row → Input → Result (ℕ × List ℕ) NumberFault → Field ℕ
number_field row i (Ok x) = Ok (x.0, record { at = i.at + (length i.bytes - length x.1); bytes = x.1 })
number_field row i (Err Illegal) = fault Leb i.at
number_field row i (Err Ends) = fault row (past row i)

abbrev pub u32_field : Row → Input → Field ℕ
u32_field row i = number_field row i (unsigned_at 32 i.bytes)

-- inside a section
abbrev pub byte : Input → Field ℕ
byte i = byte_field SectionSize i

abbrev pub u32 : Input → Field ℕ
u32 i = u32_field SectionSize i

abbrev pub integer : ℕ → Input → Field ℕ
integer bits i = number_field SectionSize i (integer_at bits i.bytes)

-- the next byte, which can be no other
abbrev pub exactly : ℕ → Input → Field ℕ
exactly b i = byte i >>= λ x. expects (x.0 == b) UnknownByte i.at >>= λ _. Ok x

-- a value made of a field
abbrev pub onto : {A B : Type 0} → (A → B) → Field A → Field B
onto f r = r >>= λ x. Ok (f x.0, x.1)

-- so many items
abbrev pub items_field : {X : Type 0} → (Input → Field X) → ℕ → Input → Field (List X)
items_field item zero i = Ok ([], i)
items_field item (suc n) i = item i >>= λ v. items_field item n v.1 >>= λ vs. Ok (v.0 ∷ vs.0, vs.1)

abbrev pub vec_field : {X : Type 0} → (Input → Field X) → Input → Field (List X)
vec_field item i = u32 i >>= λ n. items_field item n.0 n.1

-- a count that has to be within what is left of a limit
abbrev pub count_field : (used limit : ℕ) → Input → Field ℕ
count_field used limit i = u32 i >>= λ n. expects (nat_le (used + n.0) limit) Limit i.at >>= λ _. Ok n

abbrev pub bytes_field : Input → Field (List ℕ)
bytes_field i =
    u32 i >>= λ n.
    expects (nat_le n.0 (length n.1.bytes)) SectionSize n.1.at >>= λ _.
    Ok (take n.0 n.1.bytes, record { at = n.1.at + n.0; bytes = drop n.0 n.1.bytes })

-- a name, and its faults at its first byte, after the count
abbrev pub name_field : Input → Field (List ℕ)
name_field i =
    u32 i >>= λ n.
    expects (nat_le n.0 (length n.1.bytes)) SectionSize n.1.at >>= λ _.
    expects (is_utf8 (take n.0 n.1.bytes)) Utf8 n.1.at >>= λ _.
    Ok (take n.0 n.1.bytes, record { at = n.1.at + n.0; bytes = drop n.0 n.1.bytes })

abbrev pub nothing_left : Input → Result (Unit {0}) Fault
nothing_left i = expects (nat_le (length i.bytes) 0) SectionSize i.at

-- all of the next bytes, so many, by one field
abbrev pub sized : {X : Type 0} → ℕ → (Input → Field X) → Input → Field X
sized size content i =
    content (record { at = i.at; bytes = take size i.bytes }) >>= λ x.
    nothing_left x.1 >>= λ _.
    Ok (x.0, record { at = i.at + size; bytes = drop size i.bytes })

-- ---- types

abbrev pub val_type_of : (at byte : ℕ) → Result ValType Fault
val_type_of at b =
    if b == 0x7f then Ok I32
    else (if b == 0x7e then Ok I64
    else (if (b == 0x7d) || (b == 0x7c) then fault Float at else fault UnknownByte at))

abbrev pub val_type_field : Input → Field ValType
val_type_field i = byte i >>= λ b. val_type_of i.at b.0 >>= λ t. Ok (t, b.1)

abbrev pub result_of : (at byte : ℕ) → Result (Option ValType) Fault
result_of at b = if b == 0x40 then Ok None else val_type_of at b >>= λ t. Ok (Some t)

abbrev pub block_type_field : Input → Field (Option ValType)
block_type_field i = byte i >>= λ b. result_of i.at b.0 >>= λ r. Ok (r, b.1)
