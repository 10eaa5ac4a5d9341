-- Values of some types: one of them, and lists that are put together and taken apart.
use Rattle.std.proofs.Common.{◌≡◌, ℕ, zero, suc, List, [], ◌∷◌, ◌++◌, Some, refl, sym, ap, subst, ◌∙◌}
use Rattle.std.specs.Prelude.{length, reverse, slice_get, slice_set}
use Rattle.std.proofs.lemmas.Grind.{reverse_onto}
use Rattle.sem_words.specs.declared.word.Word.{Word}
use Rattle.wasm_lang.specs.declared.types.ValType.{ValType}
use Rattle.wasm_lang.specs.declared.types.ValType.TheVariants.{I32, I64}
use Rattle.session_lang.specs.Script.{WritePlain}
use Rattle.heap_lang.specs.Heap.{with_run}
use Rattle.heap_lang.proofs.RunLemmas.{length-with_run}
use Rattle.wasm_lang_exec.specs.Store.{word_of_type, zeros_of, written}
use Rattle.wasm_lang_exec.specs.Reductions.{and_value, top_of, below_top}
use Rattle.wasm_laws_sound.specs.Configurations.{HasType, HaveTypes}

pub word_has_type : (t : ValType) (n : ℕ) → HasType t (word_of_type t n)
word_has_type I32 n = tt
word_has_type I64 n = tt

pub zeros_have : (ts : List ValType) → HaveTypes ts (zeros_of ts)
zeros_have [] = tt
zeros_have (t ∷ ts) = (word_has_type t 0, zeros_have ts)

-- ---- one of them

pub record HasAt (t : ValType) (vs : List Word) (i : ℕ) : Type 0 where
  pub value : Word
  pub is_there : slice_get vs i ≡ Some value
  pub has : HasType t value

pub have_at : (ts : List ValType) (vs : List Word) (i : ℕ) (t : ValType) → HaveTypes ts vs → slice_get ts i ≡ Some t → HasAt t vs i
have_at [] vs i t h e = cc e
have_at (u ∷ ts) [] i t h e = absurd h
have_at (u ∷ ts) (v ∷ vs) zero t h e = let same : u ≡ t = cc e in record { value = v; is_there = refl; has = subst (λ t. HasType t v) same h.0 }
have_at (u ∷ ts) (v ∷ vs) (suc i) t h e = let it = have_at ts vs i t h.1 e in record { value = it.value; is_there = it.is_there; has = it.has }

pub have_set : (ts : List ValType) (vs : List Word) (i : ℕ) (t : ValType) (v : Word) → HaveTypes ts vs → slice_get ts i ≡ Some t → HasType t v → HaveTypes ts (slice_set vs i v)
have_set [] vs i t v h e has = cc e
have_set (u ∷ ts) [] i t v h e has = absurd h
have_set (u ∷ ts) (w ∷ vs) zero t v h e has = let same : t ≡ u = cc e in (subst (λ t. HasType t v) same has, h.1)
have_set (u ∷ ts) (w ∷ vs) (suc i) t v h e has = (h.0, have_set ts vs i t v h.1 e has)

-- ---- lists

pub have_both : (ts us : List ValType) (vs ws : List Word) → HaveTypes ts vs → HaveTypes us ws → HaveTypes (ts ++ us) (vs ++ ws)
have_both [] us [] ws h i = i
have_both [] us (v ∷ vs) ws h i = absurd h
have_both (t ∷ ts) us [] ws h i = absurd h
have_both (t ∷ ts) us (v ∷ vs) ws h i = (h.0, have_both ts us vs ws h.1 i)

pub have_reverse : (ts : List ValType) (vs : List Word) → HaveTypes ts vs → HaveTypes (reverse ts) (reverse vs)
have_reverse [] [] h = tt
have_reverse [] (v ∷ vs) h = absurd h
have_reverse (t ∷ ts) [] h = absurd h
have_reverse (t ∷ ts) (v ∷ vs) h =
    subst (λ l. HaveTypes l (reverse (v ∷ vs))) (sym (reverse_onto ts t []))
    (subst (λ l. HaveTypes (reverse ts ++ t ∷ []) l) (sym (reverse_onto vs v []))
    (have_both (reverse ts) (t ∷ []) (reverse vs) (v ∷ []) (have_reverse ts vs h.1) (h.0, tt)))

-- the topmost of them, and those below
pub record HasTop (ts : List ValType) (vs : List Word) : Type 0 where
  pub top : List Word
  pub is_top : top_of (length ts) vs ≡ Some top
  pub have : HaveTypes ts top

pub have_top : (ts us : List ValType) (vs : List Word) → HaveTypes (ts ++ us) vs → HasTop ts vs
have_top [] us vs h = record { top = []; is_top = refl; have = tt }
have_top (t ∷ ts) us [] h = absurd h
have_top (t ∷ ts) us (v ∷ vs) h = let it = have_top ts us vs h.1 in record { top = v ∷ it.top; is_top = ap (and_value v) it.is_top; have = (h.0, it.have) }

pub have_below : (ts us : List ValType) (vs : List Word) → HaveTypes (ts ++ us) vs → HaveTypes us (below_top (length ts) vs)
have_below [] us vs h = h
have_below (t ∷ ts) us [] h = absurd h
have_below (t ∷ ts) us (v ∷ vs) h = have_below ts us vs h.1

-- ---- the memory

pub length-written : (ws : List WritePlain) (memory : List ℕ) → length (written ws memory) ≡ length memory
length-written [] memory = refl
length-written (w ∷ ws) memory = length-written ws (with_run w.at w.bytes memory) ∙ length-with_run w.at w.bytes memory
