-- A text that is read by computing: its tokens, and then its module.
use Rattle.std.proofs.Common.{◌≡◌, ℕ, zero, suc, ◌+◌, Bool, false, ◌||◌, List, [], ◌∷◌, length, take, drop, Option, Some, None, Result, Ok, Err, refl, subst}
use Rattle.std.specs.Prelude.{option_map}
use Rattle.std.specs.List.{list_any}
use Rattle.asm_lang_tokens.specs.Bytes.{is_line_end}
use Rattle.asm_lang_tokens.specs.Forms.{Kind}
use Rattle.asm_lang_tokens.specs.Text.{Front, gap, token, fault, front_of, PlacedToken, Reads, the_end, a_gap, a_token, IsReading}
use Rattle.asm_lang.specs.Lexemes.{lexemes_of}
use Rattle.asm_lang.specs.Trees.{ModuleTree}
use Rattle.asm_lang.specs.Machine.{Refusal, run, at_start}
use Rattle.asm_lang.specs.Modules.{Module, module_of}
use Rattle.asm_lang.proofs.Sound.{found_module}
use Rattle.asm_lang.specs.Texts.{IsTextOf}

-- ---- tokens

abbrev placed : Kind → List ℕ → ℕ → Bool → PlacedToken
placed k text at line = record { kind = k; text = text; at = at; line_before = line }

abbrev after_front : (ℕ → Bool → List ℕ → Option (List PlacedToken)) → ℕ → Bool → List ℕ → Front → Option (List PlacedToken)
after_front again at line bs (gap n) = again (at + n) (line || list_any is_line_end (take n bs)) (drop n bs)
after_front again at line bs (token k n) = option_map (λ ts. placed k (take n bs) at line ∷ ts) (again (at + n) false (drop n bs))
after_front again at line bs (fault f n) = None

-- the tokens of a text of at most so many gaps and tokens
abbrev tokens_of : ℕ → ℕ → Bool → List ℕ → Option (List PlacedToken)
tokens_of n at line [] = Some []
tokens_of zero at line (b ∷ bs) = None
tokens_of (suc n) at line (b ∷ bs) = after_front (tokens_of n) at line (b ∷ bs) (front_of (b ∷ bs))

none_is_some : {A : Type 0} (x : A) → (let o : Option A = None in o) ≡ Some x → ⊥
none_is_some x e = cc

same_in : {A : Type 0} (x y : A) → (let o : Option A = Some x in o) ≡ Some y → x ≡ y
same_in x y e = cc

abbrev Sound : (ℕ → Bool → List ℕ → Option (List PlacedToken)) → Type 0
Sound again = (at : ℕ) (line : Bool) (bs : List ℕ) (ts : List PlacedToken) → again at line bs ≡ Some ts → Reads at line bs (Ok ts)

token_reads : (again : ℕ → Bool → List ℕ → Option (List PlacedToken)) → Sound again → (at : ℕ) (line : Bool) (b : ℕ) (bs : List ℕ) (k : Kind) (n : ℕ)
    → front_of (b ∷ bs) ≡ token k n → (o : Option (List PlacedToken)) → again (at + n) false (drop n (b ∷ bs)) ≡ o → (ts : List PlacedToken)
    → option_map (λ us. placed k (take n (b ∷ bs)) at line ∷ us) o ≡ Some ts → Reads at line (b ∷ bs) (Ok ts)
token_reads again sound at line b bs k n front None h ts e = absurd (none_is_some ts e)
token_reads again sound at line b bs k n front (Some us) h ts e =
    subst (λ (vs : List PlacedToken). Reads at line (b ∷ bs) (Ok vs)) (same_in (placed k (take n (b ∷ bs)) at line ∷ us) ts e) (a_token front (sound (at + n) false (drop n (b ∷ bs)) us h))

front_reads : (again : ℕ → Bool → List ℕ → Option (List PlacedToken)) → Sound again → (at : ℕ) (line : Bool) (b : ℕ) (bs : List ℕ) (f : Front)
    → front_of (b ∷ bs) ≡ f → (ts : List PlacedToken) → after_front again at line (b ∷ bs) f ≡ Some ts → Reads at line (b ∷ bs) (Ok ts)
front_reads again sound at line b bs (gap n) front ts e = a_gap front (sound (at + n) (line || list_any is_line_end (take n (b ∷ bs))) (drop n (b ∷ bs)) ts e)
front_reads again sound at line b bs (token k n) front ts e = token_reads again sound at line b bs k n front (again (at + n) false (drop n (b ∷ bs))) refl ts e
front_reads again sound at line b bs (fault f n) front ts e = absurd (none_is_some ts e)

reads : (n : ℕ) → Sound (tokens_of n)
reads zero at line [] ts e = subst (λ (vs : List PlacedToken). Reads at line [] (Ok vs)) (same_in [] ts e) the_end
reads zero at line (b ∷ bs) ts e = absurd (none_is_some ts e)
reads (suc n) at line [] ts e = subst (λ (vs : List PlacedToken). Reads at line [] (Ok vs)) (same_in [] ts e) the_end
reads (suc n) at line (b ∷ bs) ts e = front_reads (tokens_of n) (reads n) at line b bs (front_of (b ∷ bs)) refl ts e

-- ---- the module

abbrev of_tree : Result ModuleTree Refusal → Option Module
of_tree (Ok t) = Some (module_of t)
of_tree (Err f) = None

abbrev of_tokens : Option (List PlacedToken) → Option Module
of_tokens None = None
of_tokens (Some ts) = of_tree (run at_start (lexemes_of ts))

abbrev pub said : List ℕ → Option Module
said text = of_tokens (tokens_of (length text) 0 false text)

tree_says : (text : List ℕ) (m : Module) (ts : List PlacedToken) → IsReading text (Ok ts) → (r : Result ModuleTree Refusal) → run at_start (lexemes_of ts) ≡ r → of_tree r ≡ Some m → IsTextOf text m
tree_says text m ts h (Ok t) k e = record { tokens = ts; is_reading = h; tree = t; is_module = found_module (lexemes_of ts) t k; is_this = same_in (module_of t) m e }
tree_says text m ts h (Err f) k e = absurd (none_is_some m e)

tokens_say : (text : List ℕ) (m : Module) (o : Option (List PlacedToken)) → tokens_of (length text) 0 false text ≡ o → of_tokens o ≡ Some m → IsTextOf text m
tokens_say text m None h e = absurd (none_is_some m e)
tokens_say text m (Some ts) h e = tree_says text m ts (reads (length text) 0 false text ts h) (run at_start (lexemes_of ts)) refl e

pub text_says : (text : List ℕ) (m : Module) → said text ≡ Some m → IsTextOf text m
text_says text m e = tokens_say text m (tokens_of (length text) 0 false text) refl e
