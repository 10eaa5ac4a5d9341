-- A text says a module within the limit or has a fault, and never both, and one fault at most.
use Rattle.std.proofs.Common.{◌≡◌, ℕ, ◌≤◌, List, Ok, Err, refl, sym, ap, subst, ◌∙◌}
use Rattle.asm_lang_tokens.specs.Text.{PlacedToken, PlacedFault, Reading, IsReading, HasFault}
use Rattle.asm_lang_tokens.specs.Text as bytes
use Rattle.asm_lang_tokens.proofs.Readings.{same_reading, reading_of}
use Rattle.asm_lang.specs.Lexemes.{lexemes_of}
use Rattle.asm_lang.specs.Grammar.{IsModule}
use Rattle.asm_lang.specs.Modules.{Module, module_of, module_places}
use Rattle.asm_lang.specs.Heights.{module_height, height_limit}
use Rattle.asm_lang.specs.Kinds.{Kind}
use Rattle.asm_lang.specs.Kinds as kinds
use Rattle.asm_lang.specs.Texts.{IsTextOf, place_of, AtToken, Fault, IsFault}
use Rattle.asm_laws_fault.specs.Outcomes as outcomes
use Rattle.asm_laws_fault.specs.TextOutcomes.{TextOutcome, says, a_fault}
use Rattle.asm_laws_fault.proofs.Same as tokens
use Rattle.asm_laws_fault.proofs.Outcomes.{none, outcome}
use Rattle.asm_laws_fault.proofs.Causes.{byte_fault, token_fault, Cause, of_bytes, of_tokens, cause, byte_fault_is, token_fault_is}

same_tokens : (ts us : List PlacedToken) → (let r : Reading = Ok ts in r) ≡ Ok us → ts ≡ us
same_tokens ts us e = cc

same_fault : (f g : PlacedFault) → (let r : Reading = Err f in r) ≡ Err g → f ≡ g
same_fault f g e = cc

apart : (ts : List PlacedToken) (f : PlacedFault) → (let r : Reading = Ok ts in r) ≡ Err f → ⊥
apart ts f e = cc

-- ---- one fault

two_of_bytes : (text : List ℕ) (f g : bytes.Fault) (i j : ℕ) → HasFault text f i → HasFault text g j → (byte_fault f ≡ byte_fault g) × (i ≡ j)
two_of_bytes text f g i j h k =
    let e = same_fault (record { fault = f; at = i }) (record { fault = g; at = j }) (same_reading h k) in
    (ap (λ (p : PlacedFault). byte_fault p.fault) e, ap (λ (p : PlacedFault). p.at) e)

two_of_tokens : (text : List ℕ) (a b : Kind) (i j : ℕ) → AtToken text a i → AtToken text b j → (token_fault a ≡ token_fault b) × (i ≡ j)
two_of_tokens text a b i j f g =
    let ts = same_tokens f.tokens g.tokens (same_reading f.is_reading g.is_reading) in
    let other = subst (λ (us : List PlacedToken). kinds.IsFault height_limit (lexemes_of us) b g.token) (sym ts) g.is_fault in
    let is = tokens.same height_limit (lexemes_of f.tokens) a b f.token g.token f.is_fault other in
    (ap token_fault is.0, f.is_there ∙ (λ n. place_of text (ts n) (is.1 n)) ∙ sym g.is_there)

one_cause : (text : List ℕ) (f g : Fault) (i j : ℕ) → Cause text f i → Cause text g j → (f ≡ g) × (i ≡ j)
one_cause text f g i j (of_bytes a h is) (of_bytes b k js) = (let two = two_of_bytes text a b i j h k in (is ∙ two.0 ∙ sym js, two.1))
one_cause text f g i j (of_bytes a h is) (of_tokens b k js) = absurd (apart k.tokens _ (same_reading k.is_reading h))
one_cause text f g i j (of_tokens a h is) (of_bytes b k js) = absurd (apart h.tokens _ (same_reading h.is_reading k))
one_cause text f g i j (of_tokens a h is) (of_tokens b k js) = (let two = two_of_tokens text a b i j h k in (is ∙ two.0 ∙ sym js, two.1))

pub same : (text : List ℕ) (f g : Fault) (i j : ℕ) → IsFault text f i → IsFault text g j → (f ≡ g) × (i ≡ j)
same text f g i j h k = one_cause text f g i j (cause text f i h) (cause text g j k)

-- ---- a module or a fault

no_cause : (text : List ℕ) (m : Module) (f : Fault) (at : ℕ) (said : IsTextOf text m) → module_height m ≤ height_limit → Cause text f at → ⊥
no_cause text m f at said low (of_bytes b h is) = apart said.tokens _ (same_reading said.is_reading h)
no_cause text m f at said low (of_tokens a h is) =
    let ts = same_tokens said.tokens h.tokens (same_reading said.is_reading h.is_reading) in
    let spelled = subst (λ (us : List PlacedToken). IsModule said.tree (lexemes_of us)) ts said.is_module in
    let within = subst (λ (n : Module). module_height n ≤ height_limit) (sym said.is_this) low in
    none height_limit (lexemes_of h.tokens) said.tree spelled within a h.token h.is_fault

pub not_both : (text : List ℕ) (m : Module) → IsTextOf text m → module_height m ≤ height_limit → (f : Fault) (at : ℕ) → IsFault text f at → ⊥
not_both text m said low f at h = no_cause text m f at said low (cause text f at h)

of_outcome : (text : List ℕ) (ts : List PlacedToken) → IsReading text (Ok ts) → outcomes.Outcome height_limit (lexemes_of ts) → TextOutcome text
of_outcome text ts reads (outcomes.a_module t is low) =
    says (module_of t) (module_places t) (record { said = record { tokens = ts; is_reading = reads; tree = t; is_module = is; is_this = refl }; have_places = refl; within = low })
of_outcome text ts reads (outcomes.a_fault a k f) =
    a_fault (token_fault a) (place_of text ts k) (token_fault_is text a (place_of text ts k) (record { tokens = ts; is_reading = reads; token = k; is_fault = f; is_there = refl }))

of_reading : (text : List ℕ) (r : Reading) → IsReading text r → TextOutcome text
of_reading text (Ok ts) reads = of_outcome text ts reads (outcome height_limit (lexemes_of ts))
of_reading text (Err f) reads = a_fault (byte_fault f.fault) f.at (byte_fault_is text f.fault f.at reads)

pub some : (text : List ℕ) → TextOutcome text
some text = let r = reading_of text in of_reading text r.0 r.1
