-- The names of instructions are atoms.
use Rattle.std.proofs.Common.{◌≡◌, ℕ, Bool, true, false, List, [], ◌++◌, codes, refl}
use Rattle.std.specs.Prelude.{◌==◌, if◌then◌else◌}
use Rattle.std.specs.List.{list_all}
use Rattle.sem_words.specs.declared.word.Bin.{Bin}
use Rattle.sem_words.specs.declared.word.Bin.TheVariants.{Add, Sub, Mul, DivS, DivU, RemS, RemU, And, Or, Xor, Shl, ShrS, ShrU, Rotl, Rotr}
use Rattle.sem_words.specs.declared.word.Un.{Un}
use Rattle.sem_words.specs.declared.word.Un.TheVariants.{Clz, Ctz, Popcnt}
use Rattle.sem_words.specs.declared.word.Rel.{Rel}
use Rattle.sem_words.specs.declared.word.Rel.TheVariants.{Eq, Ne, LtS, LtU, GtS, GtU, LeS, LeU, GeS, GeU}
use Rattle.wasm_lang.specs.Instructions.{Plain, nop, drop_operand, select, local_get, local_set, local_tee, global_get, global_set, load, store, memory_size, memory_copy, memory_fill, const32, const64, eqz32, eqz64, rel32, rel64, un32, un64, bin32, bin64, wrap, extend_s, extend_u, sign_extend, Instruction, unreachable, block, loop, if_block, else_mark, end_mark, br, br_if, br_table, return, call, call_indirect, plain}
use Rattle.wat_lang.specs.Tokens.{is_atom_byte}
use Rattle.wat_lang.specs.Words.{rel_name, un_name, bin_name, of_type, narrow_bits, is_whole, sign_suffix, plain_name, name_of}
use Rattle.wat_laws_print.specs.Pieces.{is_atom}
use Rattle.wat_laws_print.proofs.Numerals.{all_joined}

typed_atom : (wide : Bool) (name : List ℕ) → list_all is_atom_byte name ≡ true → is_atom (of_type wide name) ≡ true
typed_atom true name all = all
typed_atom false name all = all

rel_all : (op : Rel) → list_all is_atom_byte (rel_name op) ≡ true
rel_all Eq = refl
rel_all Ne = refl
rel_all LtS = refl
rel_all LtU = refl
rel_all GtS = refl
rel_all GtU = refl
rel_all LeS = refl
rel_all LeU = refl
rel_all GeS = refl
rel_all GeU = refl

un_all : (op : Un) → list_all is_atom_byte (un_name op) ≡ true
un_all Clz = refl
un_all Ctz = refl
un_all Popcnt = refl

bin_all : (op : Bin) → list_all is_atom_byte (bin_name op) ≡ true
bin_all Add = refl
bin_all Sub = refl
bin_all Mul = refl
bin_all DivS = refl
bin_all DivU = refl
bin_all RemS = refl
bin_all RemU = refl
bin_all And = refl
bin_all Or = refl
bin_all Xor = refl
bin_all Shl = refl
bin_all ShrS = refl
bin_all ShrU = refl
bin_all Rotl = refl
bin_all Rotr = refl

-- one of three numbers of bits
three_all : (first second : Bool) → list_all is_atom_byte (if first then codes "8" else (if second then codes "16" else codes "32")) ≡ true
three_all true second = refl
three_all false true = refl
three_all false false = refl

suffix_all : (signed : Bool) → list_all is_atom_byte (sign_suffix signed) ≡ true
suffix_all true = refl
suffix_all false = refl

part_all : (whole : Bool) (name part : List ℕ) → list_all is_atom_byte name ≡ true → list_all is_atom_byte part ≡ true → list_all is_atom_byte (name ++ (if whole then [] else part)) ≡ true
part_all true name part all more = all_joined name [] all refl
part_all false name part all more = all_joined name part all more

plain_atom : (p : Plain) → is_atom (plain_name p) ≡ true
plain_atom nop = refl
plain_atom drop_operand = refl
plain_atom select = refl
plain_atom (local_get x) = refl
plain_atom (local_set x) = refl
plain_atom (local_tee x) = refl
plain_atom (global_get x) = refl
plain_atom (global_set x) = refl
plain_atom (load op align offset) =
    typed_atom op.wide (codes "load" ++ (if is_whole op then [] else narrow_bits op.size ++ sign_suffix op.signed)) (part_all (is_whole op) (codes "load") (narrow_bits op.size ++ sign_suffix op.signed) refl
    (all_joined (narrow_bits op.size) (sign_suffix op.signed) (three_all (op.size == 1) (op.size == 2)) (suffix_all op.signed)))
plain_atom (store op align offset) = typed_atom op.wide (codes "store" ++ (if is_whole op then [] else narrow_bits op.size)) (part_all (is_whole op) (codes "store") (narrow_bits op.size) refl (three_all (op.size == 1) (op.size == 2)))
plain_atom memory_size = refl
plain_atom memory_copy = refl
plain_atom memory_fill = refl
plain_atom (const32 word) = refl
plain_atom (const64 word) = refl
plain_atom eqz32 = refl
plain_atom eqz64 = refl
plain_atom (rel32 op) = typed_atom false (rel_name op) (rel_all op)
plain_atom (rel64 op) = typed_atom true (rel_name op) (rel_all op)
plain_atom (un32 op) = typed_atom false (un_name op) (un_all op)
plain_atom (un64 op) = typed_atom true (un_name op) (un_all op)
plain_atom (bin32 op) = typed_atom false (bin_name op) (bin_all op)
plain_atom (bin64 op) = typed_atom true (bin_name op) (bin_all op)
plain_atom wrap = refl
plain_atom extend_s = refl
plain_atom extend_u = refl
plain_atom (sign_extend wide bits) =
    let size : List ℕ = if bits == 8 then codes "8" else (if bits == 16 then codes "16" else codes "32") in
    typed_atom wide (codes "extend" ++ (size ++ codes "_s")) (all_joined (codes "extend") (size ++ codes "_s") refl (all_joined size (codes "_s") (three_all (bits == 8) (bits == 16)) refl))

pub name_atom : (i : Instruction) → is_atom (name_of i) ≡ true
name_atom unreachable = refl
name_atom (block r) = refl
name_atom (loop r) = refl
name_atom (if_block r) = refl
name_atom else_mark = refl
name_atom end_mark = refl
name_atom (br l) = refl
name_atom (br_if l) = refl
name_atom (br_table ls l) = refl
name_atom return = refl
name_atom (call f) = refl
name_atom (call_indirect t) = refl
name_atom (plain p) = plain_atom p
