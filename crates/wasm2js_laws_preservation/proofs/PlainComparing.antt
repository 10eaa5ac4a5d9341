-- Bit by bit, shifts, and comparisons.
use Rattle.std.proofs.Common.{◌≡◌, ℕ, ◌+◌, Bool, true, false, List, [], ◌∷◌, ◌++◌, length, Ok, refl, ap}
use Rattle.std.specs.Prelude.{◌==◌}
use Rattle.sem_words.specs.declared.word.Bin.TheVariants.{And, Or, Xor, Shl, ShrS, ShrU}
use Rattle.sem_words.specs.declared.word.Rel.{Rel}
use Rattle.sem_words.specs.declared.word.Rel.TheVariants.{Eq, Ne, LtS, LtU, GtS, GtU, LeS, LeU, GeS, GeU}
use Rattle.sem_words.specs.Words.{rel_of}
use Rattle.wasm_lang.specs.declared.types.ValType.TheVariants.{I32}
use Rattle.wasm_lang.specs.Instructions.{bin32, rel32, eqz32}
use Rattle.wasm_lang_exec.specs.Plain.{flag}
use Rattle.wasm2js_translation.specs.Words.{conjunction, disjunction, exclusion, shift_left, shift_right_signed, shift_right, Term, read, both, compare, equal}
use Rattle.wasm2js_translation.specs.Pairs.{literal}
use Rattle.wasm2js_translation.specs.Actions.{low, narrow_relation}
use Rattle.wasm2js_laws_places.specs.Straight.{Words, truth, value}
use Rattle.wasm2js_laws_preservation.specs.InstructionsPlain.{IsPlain, Always}
use Rattle.wasm2js_laws_preservation.proofs.PlainPuts.{put_is, one_alike, two_alike}
use Rattle.wasm2js_laws_typed.proofs.SoundPlain.{of_fixed}
use Rattle.wasm2js_laws_preservation.proofs.PlainSummed.{two_words}

pub conjunction_is : Always (bin32 And)
conjunction_is = two_words And (λ d. both conjunction (read (low d)) (read (low (d + 1)))) (λ f helping b below. refl) (λ d words heap are. refl)

pub disjunction_is : Always (bin32 Or)
disjunction_is = two_words Or (λ d. both disjunction (read (low d)) (read (low (d + 1)))) (λ f helping b below. refl) (λ d words heap are. refl)

pub exclusion_is : Always (bin32 Xor)
exclusion_is = two_words Xor (λ d. both exclusion (read (low d)) (read (low (d + 1)))) (λ f helping b below. refl) (λ d words heap are. refl)

pub shift_left_is : Always (bin32 Shl)
shift_left_is = two_words Shl (λ d. both shift_left (read (low d)) (read (low (d + 1)))) (λ f helping b below. refl) (λ d words heap are. refl)

pub shift_right_signed_is : Always (bin32 ShrS)
shift_right_signed_is = two_words ShrS (λ d. both shift_right_signed (read (low d)) (read (low (d + 1)))) (λ f helping b below. refl) (λ d words heap are. refl)

pub shift_right_is : Always (bin32 ShrU)
shift_right_is = two_words ShrU (λ d. both shift_right (read (low d)) (read (low (d + 1)))) (λ f helping b below. refl) (λ d words heap are. refl)

-- ---- comparisons

flag_truth : (t : Bool) → flag t ≡ truth t
flag_truth true = refl
flag_truth false = refl

compared : (op : Rel) (a b : Term) (words : Words) (heap : List ℕ) → flag (rel_of 32 op (value a words heap) (value b words heap)) ≡ value (narrow_relation op a b) words heap
compared Eq a b words heap = flag_truth (rel_of 32 Eq (value a words heap) (value b words heap))
compared Ne a b words heap = flag_truth (rel_of 32 Ne (value a words heap) (value b words heap))
compared LtS a b words heap = flag_truth (rel_of 32 LtS (value a words heap) (value b words heap))
compared LtU a b words heap = flag_truth (rel_of 32 LtU (value a words heap) (value b words heap))
compared GtS a b words heap = flag_truth (rel_of 32 GtS (value a words heap) (value b words heap))
compared GtU a b words heap = flag_truth (rel_of 32 GtU (value a words heap) (value b words heap))
compared LeS a b words heap = flag_truth (rel_of 32 LeS (value a words heap) (value b words heap))
compared LeU a b words heap = flag_truth (rel_of 32 LeU (value a words heap) (value b words heap))
compared GeS a b words heap = flag_truth (rel_of 32 GeS (value a words heap) (value b words heap))
compared GeU a b words heap = flag_truth (rel_of 32 GeU (value a words heap) (value b words heap))

pub relation_is : (op : Rel) → Always (rel32 op)
relation_is op f helping supports ls b form takes gives below is acts =
    of_fixed (λ takes gives. IsPlain f helping (rel32 op) b (takes ++ below) (gives ++ below))
    (I32 ∷ I32 ∷ []) (I32 ∷ []) takes gives form is acts
    (let d = b + length below in
    put_is f helping (rel32 op) b (I32 ∷ I32 ∷ below) below (narrow_relation op (read (low d)) (read (low (d + 1)))) refl refl
    (λ words heap replies events are. two_alike f helping b below words heap replies events (λ x y. Ok (flag (rel_of 32 op x y))) (value (narrow_relation op (read (low d)) (read (low (d + 1)))) words heap)
    (ap Ok (compared op (read (low d)) (read (low (d + 1))) words heap))))

pub zero_test_is : Always eqz32
zero_test_is f helping supports ls b form takes gives below is acts =
    of_fixed (λ takes gives. IsPlain f helping eqz32 b (takes ++ below) (gives ++ below))
    (I32 ∷ []) (I32 ∷ []) takes gives form is acts
    (let d = b + length below in
    put_is f helping eqz32 b (I32 ∷ below) below (compare true equal (read (low d)) (literal 0)) refl refl
    (λ words heap replies events are. one_alike f helping b below words heap replies events (λ x. Ok (flag (x == 0))) (value (compare true equal (read (low d)) (literal 0)) words heap)
    (ap Ok (flag_truth (words (low d) == 0)))))
