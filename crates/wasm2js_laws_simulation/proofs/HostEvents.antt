-- How events match in the two parts of a session.
use Rattle.std.proofs.Common.{◌≡◌, ℕ, Bool, true, false, List, [], ◌∷◌, ◌++◌, refl, sym, ap, ◌∙◌}
use Rattle.std.specs.Prelude.{if◌then◌else◌}
use Rattle.std.specs.List.{flat_map}
use Rattle.std.proofs.lemmas.List.Concat.{flat_map-append}
use Rattle.sem_words.specs.declared.word.Word.{Word}
use Rattle.sem_words.specs.declared.word.Word.TheVariants.{W32, W64}
use Rattle.session_lang.specs.Observation.{EventPlain, import_called, call_gave, call_returned}
use Rattle.session_lang.specs.CallingForms.{split_word, split_event, without_init}
use Rattle.wasm2js_laws_simulation.specs.HostHosts.{starting, calling, Phase, has_return, no_match, Matches}

-- ---- nothing goes over to what matches nothing

never : (source : List EventPlain) → flat_map split_event source ≡ no_match → ⊥
never [] e = cc e
never (import_called name args ∷ source) e = cc e
never (call_gave (W32 x) ∷ source) e = cc e
never (call_gave (W64 x) ∷ source) e = cc e
never (call_returned ∷ source) e = cc e

-- ---- the return of `$init`, and what comes after it

none_taken : (target : List EventPlain) → has_return target ≡ false → without_init target ≡ target
none_taken [] h = refl
none_taken (call_returned ∷ target) h = cc h
none_taken (import_called name args ∷ target) h = ap (λ es. import_called name args ∷ es) (none_taken target h)
none_taken (call_gave x ∷ target) h = ap (λ es. call_gave x ∷ es) (none_taken target h)

taken_last : (target : List EventPlain) → has_return target ≡ false → without_init (target ++ call_returned ∷ []) ≡ target
taken_last [] h = refl
taken_last (call_returned ∷ target) h = cc h
taken_last (import_called name args ∷ target) h = ap (λ es. import_called name args ∷ es) (taken_last target h)
taken_last (call_gave x ∷ target) h = ap (λ es. call_gave x ∷ es) (taken_last target h)

returns_last : (target : List EventPlain) → has_return (target ++ call_returned ∷ []) ≡ true
returns_last [] = refl
returns_last (call_returned ∷ target) = refl
returns_last (import_called name args ∷ target) = returns_last target
returns_last (call_gave x ∷ target) = returns_last target

stays_returned : (target more : List EventPlain) → has_return target ≡ true → has_return (target ++ more) ≡ true
stays_returned [] more h = cc h
stays_returned (call_returned ∷ target) more h = refl
stays_returned (import_called name args ∷ target) more h = stays_returned target more h
stays_returned (call_gave x ∷ target) more h = stays_returned target more h

taken_before : (target more : List EventPlain) → has_return target ≡ true → without_init (target ++ more) ≡ without_init target ++ more
taken_before [] more h = cc h
taken_before (call_returned ∷ target) more h = refl
taken_before (import_called name args ∷ target) more h = ap (λ es. import_called name args ∷ es) (taken_before target more h)
taken_before (call_gave x ∷ target) more h = ap (λ es. call_gave x ∷ es) (taken_before target more h)

call_is_none : (target : List EventPlain) (name : List ℕ) (args : List Word) → has_return target ≡ false → has_return (target ++ import_called name args ∷ []) ≡ false
call_is_none [] name args h = refl
call_is_none (call_returned ∷ target) name args h = cc h
call_is_none (import_called n xs ∷ target) name args h = call_is_none target name args h
call_is_none (call_gave x ∷ target) name args h = call_is_none target name args h

-- ---- what matches

-- what is known of the target where events match
abbrev Known : Phase → List EventPlain → List EventPlain → Type 0
Known starting source target = (has_return target ≡ false) × (flat_map split_event source ≡ target)
Known calling source target = (has_return target ≡ true) × (flat_map split_event source ≡ without_init target)

known : (phase : Phase) (source target : List EventPlain) → Matches phase source target → Known phase source target
known starting source target h = by (has_return target) refl h
  where
    by : (b : Bool) → has_return target ≡ b → flat_map split_event source ≡ (if b then no_match else target) → Known starting source target
    by true e h = absurd (never source h)
    by false e h = (e, h)
known calling source target h = by (has_return target) refl h
  where
    by : (b : Bool) → has_return target ≡ b → flat_map split_event source ≡ (if b then without_init target else no_match) → Known calling source target
    by true e h = (e, h)
    by false e h = absurd (never source h)

matches : (phase : Phase) (source target : List EventPlain) → Known phase source target → Matches phase source target
matches starting source target k = k.1 ∙ sym (ap (λ b. if b then no_match else target) k.0)
matches calling source target k = k.1 ∙ sym (ap (λ b. if b then without_init target else no_match) k.0)

-- what counts is the same
pub match_counts : (phase : Phase) (source target : List EventPlain) → Matches phase source target → flat_map split_event source ≡ without_init target
match_counts starting source target h = let k = known starting source target h in k.1 ∙ sym (none_taken target k.0)
match_counts calling source target h = (known calling source target h).1

-- once `$init` is back all events go over one by one
pub match_more : (source target more : List EventPlain) → Matches calling source target → Matches calling (source ++ more) (target ++ flat_map split_event more)
match_more source target more h =
    let k = known calling source target h in
    let es = flat_map split_event more in
    matches calling (source ++ more) (target ++ es)
    (stays_returned target es k.0, flat_map-append split_event source more ∙ ap (λ xs. xs ++ es) k.1 ∙ sym (taken_before target es k.0))

pub match_imports : (phase : Phase) (source target : List EventPlain) (name : List ℕ) (args : List Word) → Matches phase source target
    → Matches phase (source ++ import_called name args ∷ []) (target ++ import_called name (flat_map split_word args) ∷ [])
match_imports starting source target name args h =
    let k = known starting source target h in
    let e = import_called name (flat_map split_word args) in
    matches starting (source ++ import_called name args ∷ []) (target ++ e ∷ [])
    (call_is_none target name (flat_map split_word args) k.0, flat_map-append split_event source (import_called name args ∷ []) ∙ ap (λ xs. xs ++ e ∷ []) k.1)
match_imports calling source target name args h = match_more source target (import_called name args ∷ []) h

-- `$init` is back
pub match_returned : (source target : List EventPlain) → Matches starting source target → Matches calling source (target ++ call_returned ∷ [])
match_returned source target h =
    let k = known starting source target h in
    matches calling source (target ++ call_returned ∷ []) (returns_last target, k.1 ∙ sym (taken_last target k.0))

pub match_start : Matches starting [] []
match_start = refl
