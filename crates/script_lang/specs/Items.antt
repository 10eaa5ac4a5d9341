-- What the lines of a script say.
use Rattle.std.specs.Prelude.{ℕ, List, [], ◌∷◌, Option, Some, None, option_map, option_and_then, codes, ◌==◌, if◌then◌else◌}
use Rattle.std.specs.Str.{bytes_eq}
use Rattle.sem_words.specs.Words.{word_of}
use Rattle.session_lang.specs.Script.{GlobalPlain, WritePlain, CallPlain, give, throw, ReplyLinePlain}
use Rattle.script_lang.specs.Numbers.{number_of, place_of}
use Rattle.script_lang.specs.Names.{bytes_of, name_of}

-- what a line gives to the script
pub data Item : Type 0 where
  a_global : GlobalPlain → Item
  a_write : WritePlain → Item
  a_call : CallPlain → Item
  a_reply : ReplyLinePlain → Item

-- each word as its value, if all have one
abbrev pub all_of : {A : Type 0} → (List ℕ → Option A) → List (List ℕ) → Option (List A)
all_of value [] = Some []
all_of value (w ∷ ws) = option_and_then (λ x. option_map (λ xs. x ∷ xs) (all_of value ws)) (value w)

-- `global NAME NUMBER`
abbrev pub global_line : ℕ → List (List ℕ) → Option Item
global_line line (name ∷ number ∷ []) = option_and_then (λ n. option_map (λ v. a_global (record { name = n; value = v; line = line })) (number_of number)) (name_of name)
global_line line _ = None

-- `heap PLACE HEX`
abbrev pub write_at : ℕ → List ℕ → List ℕ → Option WritePlain
write_at line place bytes = option_and_then (λ at. option_map (λ bs. record { at = at; bytes = bs; line = line }) (bytes_of bytes)) (place_of place)

abbrev pub heap_line : ℕ → List (List ℕ) → Option Item
heap_line line (place ∷ bytes ∷ []) = option_map a_write (write_at line place bytes)
heap_line line _ = None

-- `call NAME NUMBER ..`
abbrev pub call_line : ℕ → List (List ℕ) → Option Item
call_line line (name ∷ numbers) = option_and_then (λ n. option_map (λ vs. a_call (record { name = n; args = vs; line = line })) (all_of number_of numbers)) (name_of name)
call_line line [] = None

-- what stands before the first `=`, and after it
abbrev pub onto_front : ℕ → Option (List ℕ × List ℕ) → Option (List ℕ × List ℕ)
onto_front b None = None
onto_front b (Some x) = Some (b ∷ x.0, x.1)

abbrev pub at_equals : List ℕ → Option (List ℕ × List ℕ)
at_equals [] = None
at_equals (b ∷ bs) = if b == 61 then Some ([], bs) else onto_front b (at_equals bs)

-- `PLACE=HEX`
abbrev pub write_word : ℕ → List ℕ → Option WritePlain
write_word line word = option_and_then (λ x. write_at line x.0 x.1) (at_equals word)

-- `reply NUMBER PLACE=HEX ..`: the number stands modulo 2 ^ 64
abbrev pub reply_line : ℕ → List (List ℕ) → Option Item
reply_line line (number ∷ writes) =
    option_and_then (λ n. option_map (λ ws. a_reply (record { reply = give (word_of 64 n) ws; line = line })) (all_of (write_word line) writes)) (number_of number)
reply_line line [] = None

-- `throw`
abbrev pub throw_line : ℕ → List (List ℕ) → Option Item
throw_line line [] = Some (a_reply (record { reply = throw; line = line }))
throw_line line (w ∷ ws) = None

-- a line by its words, of which the first says its kind
abbrev pub item_of : ℕ → List (List ℕ) → Option Item
item_of line [] = None
item_of line (kind ∷ words) =
    if bytes_eq kind (codes "global") then global_line line words
    else if bytes_eq kind (codes "heap") then heap_line line words
    else if bytes_eq kind (codes "call") then call_line line words
    else if bytes_eq kind (codes "reply") then reply_line line words
    else if bytes_eq kind (codes "throw") then throw_line line words
    else None
