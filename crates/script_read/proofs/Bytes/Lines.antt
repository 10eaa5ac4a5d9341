-- Each line of a script writes bytes, and so does the script.
use Rattle.std.proofs.Common.{◌≡◌, ℕ, suc, Bool, true, false, List, [], ◌∷◌, Option, Some, None, Result, Ok, Err, subst, refl}
use Rattle.std.specs.Prelude.{All, option_map, option_and_then, codes, if◌then◌else◌}
use Rattle.std.specs.Str.{bytes_eq}
use Rattle.std.proofs.lemmas.List.Elements.{All-nil, All-cons}
use Rattle.sem_words.specs.Words.{word_of}
use Rattle.heap_lang.specs.Numbers.{IsBytes}
use Rattle.session_lang.specs.Script.{WritePlain, give, throw, ReplyLinePlain, ScriptPlain}
use Rattle.script_lang.specs.Lines.{lines_of, words_of, is_passed_over}
use Rattle.script_lang.specs.Numbers.{number_of, place_of}
use Rattle.script_lang.specs.Names.{bytes_of, name_of}
use Rattle.script_lang.specs.Items.{Item, a_global, a_write, a_call, a_reply, all_of, global_line, write_at, heap_line, call_line, at_equals, write_word, reply_line, throw_line, item_of}
use Rattle.script_lang.specs.Reading.{then_items, items_of, writes_of, replies_of, collected, if_all, said_script}
use Rattle.session_lang.specs.Fits.{writes_of as replied_writes}
use Rattle.session_lang.specs.Written.{AreBytes, WritesBytes}
use Rattle.script_read.proofs.Bytes.Hex.{bytes_below}

-- ---- what an answer has, if there is one

abbrev Makes : {A : Type 0} → (A → Type 0) → Option A → Type 0
Makes {A} P o = (x : A) → o ≡ Some x → P x

mapped : {A B : Type 0} (P : A → Type 0) (Q : B → Type 0) (f : A → B) (o : Option A) → ((x : A) → P x → Q (f x)) → Makes P o → Makes Q (option_map f o)
mapped P Q f (Some x) next h = λ y is. let e : f x ≡ y = cc is in subst Q e (next x (h x refl))
mapped P Q f None next h = λ y is. absurd (cc is)

chained : {A B : Type 0} (P : A → Type 0) (Q : B → Type 0) (f : A → Option B) (o : Option A) → ((x : A) → P x → Makes Q (f x)) → Makes P o → Makes Q (option_and_then f o)
chained P Q f (Some x) next h = next x (h x refl)
chained P Q f None next h = λ y is. absurd (cc is)

abbrev Anything : {A : Type 0} → A → Type 0
Anything x = Unit {0}

anything : {A : Type 0} (o : Option A) → Makes Anything o
anything o = λ x is. tt

either : {A : Type 0} (P : A → Type 0) (b : Bool) (o p : Option A) → Makes P o → Makes P p → Makes P (if b then o else p)
either P true o p h k = h
either P false o p h k = k

none : {A : Type 0} (P : A → Type 0) → Makes P None
none P = λ x is. absurd (cc is)

-- ---- writes

abbrev WriteIs : WritePlain → Type 0
WriteIs w = IsBytes w.bytes

write_is : (line : ℕ) (place bytes : List ℕ) → Makes WriteIs (write_at line place bytes)
write_is line place bytes =
    chained Anything WriteIs (λ at. option_map (λ bs. record { at = at; bytes = bs; line = line }) (bytes_of bytes)) (place_of place)
    (λ at t. mapped IsBytes WriteIs (λ bs. record { at = at; bytes = bs; line = line }) (bytes_of bytes) (λ bs h. h) (bytes_below bytes)) (anything (place_of place))

write_word_is : (line : ℕ) (word : List ℕ) → Makes WriteIs (write_word line word)
write_word_is line word = chained Anything WriteIs (λ x. write_at line x.0 x.1) (at_equals word) (λ x t. write_is line x.0 x.1) (anything (at_equals word))

write_words_are : (line : ℕ) (words : List (List ℕ)) → Makes AreBytes (all_of (write_word line) words)
write_words_are line [] = λ ws is. let e : [] ≡ ws = cc is in subst AreBytes e (All-nil WriteIs)
write_words_are line (w ∷ ws) =
    chained WriteIs AreBytes (λ x. option_map (λ xs. x ∷ xs) (all_of (write_word line) ws)) (write_word line w)
    (λ x h. mapped AreBytes AreBytes (λ xs. x ∷ xs) (all_of (write_word line) ws) (λ xs k. All-cons WriteIs x xs h k) (write_words_are line ws)) (write_word_is line w)

-- ---- lines

abbrev ItemIs : Item → Type 0
ItemIs (a_global g) = Unit {0}
ItemIs (a_write w) = WriteIs w
ItemIs (a_call c) = Unit {0}
ItemIs (a_reply r) = AreBytes (replied_writes r.reply)

global_is : (line : ℕ) (words : List (List ℕ)) → Makes ItemIs (global_line line words)
global_is line [] = none ItemIs
global_is line (name ∷ []) = none ItemIs
global_is line (name ∷ number ∷ []) =
    chained Anything ItemIs (λ n. option_map (λ v. a_global (record { name = n; value = v; line = line })) (number_of number)) (name_of name)
    (λ n t. mapped Anything ItemIs (λ v. a_global (record { name = n; value = v; line = line })) (number_of number) (λ v u. tt) (anything (number_of number))) (anything (name_of name))
global_is line (name ∷ number ∷ more ∷ words) = none ItemIs

heap_is : (line : ℕ) (words : List (List ℕ)) → Makes ItemIs (heap_line line words)
heap_is line [] = none ItemIs
heap_is line (place ∷ []) = none ItemIs
heap_is line (place ∷ bytes ∷ []) = mapped WriteIs ItemIs a_write (write_at line place bytes) (λ w h. h) (write_is line place bytes)
heap_is line (place ∷ bytes ∷ more ∷ words) = none ItemIs

call_is : (line : ℕ) (words : List (List ℕ)) → Makes ItemIs (call_line line words)
call_is line [] = none ItemIs
call_is line (name ∷ numbers) =
    chained Anything ItemIs (λ n. option_map (λ vs. a_call (record { name = n; args = vs; line = line })) (all_of number_of numbers)) (name_of name)
    (λ n t. mapped Anything ItemIs (λ vs. a_call (record { name = n; args = vs; line = line })) (all_of number_of numbers) (λ vs u. tt) (anything (all_of number_of numbers))) (anything (name_of name))

reply_is : (line : ℕ) (words : List (List ℕ)) → Makes ItemIs (reply_line line words)
reply_is line [] = none ItemIs
reply_is line (number ∷ writes) =
    chained Anything ItemIs (λ n. option_map (λ ws. a_reply (record { reply = give (word_of 64 n) ws; line = line })) (all_of (write_word line) writes)) (number_of number)
    (λ n t. mapped AreBytes ItemIs (λ ws. a_reply (record { reply = give (word_of 64 n) ws; line = line })) (all_of (write_word line) writes) (λ ws h. h) (write_words_are line writes)) (anything (number_of number))

throw_is : (line : ℕ) (words : List (List ℕ)) → Makes ItemIs (throw_line line words)
throw_is line [] = λ i is. let e : a_reply (record { reply = throw; line = line }) ≡ i = cc is in subst ItemIs e (All-nil WriteIs)
throw_is line (w ∷ ws) = none ItemIs

item_is : (line : ℕ) (words : List (List ℕ)) → Makes ItemIs (item_of line words)
item_is line [] = none ItemIs
item_is line (kind ∷ words) =
    by (bytes_eq kind (codes "global")) (bytes_eq kind (codes "heap")) (bytes_eq kind (codes "call")) (bytes_eq kind (codes "reply")) (bytes_eq kind (codes "throw"))
  where
    by : (g h c r t : Bool) → Makes ItemIs (if g then global_line line words else if h then heap_line line words else if c then call_line line words
        else if r then reply_line line words else if t then throw_line line words else None)
    by true h c r t = global_is line words
    by false true c r t = heap_is line words
    by false false true r t = call_is line words
    by false false false true t = reply_is line words
    by false false false false true = throw_is line words
    by false false false false false = none ItemIs

-- ---- all lines

abbrev ItemsAre : List Item → Type 0
ItemsAre [] = Unit {0}
ItemsAre (i ∷ is) = ItemIs i × ItemsAre is

abbrev Gives : Result (List Item) ℕ → Type 0
Gives r = (is : List Item) → r ≡ Ok is → ItemsAre is

line_gives : (line : ℕ) (o : Option Item) (r : Result (List Item) ℕ) → Makes ItemIs o → Gives r → Gives (then_items line o r)
line_gives line None r h k = λ is e. absurd (cc e)
line_gives line (Some i) (Ok more) h k = λ is e. let all : i ∷ more ≡ is = cc e in subst ItemsAre all (h i refl, k more refl)
line_gives line (Some i) (Err n) h k = λ is e. absurd (cc e)

passed_or : (b : Bool) (r s : Result (List Item) ℕ) → Gives r → Gives s → Gives (if b then r else s)
passed_or true r s h k = h
passed_or false r s h k = k

lines_give : (line : ℕ) (ls : List (List ℕ)) → Gives (items_of line ls)
lines_give line [] = λ is e. let none : [] ≡ is = cc e in subst ItemsAre none tt
lines_give line (l ∷ ls) =
    let rest = lines_give (suc line) ls in
    passed_or (is_passed_over (words_of l)) (items_of (suc line) ls) (then_items line (item_of line (words_of l)) (items_of (suc line) ls)) rest
    (line_gives line (item_of line (words_of l)) (items_of (suc line) ls) (item_is line (words_of l)) rest)

-- ---- the script

abbrev ReplyIs : ReplyLinePlain → Type 0
ReplyIs r = AreBytes (replied_writes r.reply)

writes_are : (is : List Item) → ItemsAre is → AreBytes (writes_of is)
writes_are [] h = All-nil WriteIs
writes_are (a_global g ∷ is) h = writes_are is h.1
writes_are (a_write w ∷ is) h = All-cons WriteIs w (writes_of is) h.0 (writes_are is h.1)
writes_are (a_call c ∷ is) h = writes_are is h.1
writes_are (a_reply r ∷ is) h = writes_are is h.1

replies_are : (is : List Item) → ItemsAre is → All ReplyIs (replies_of is)
replies_are [] h = All-nil ReplyIs
replies_are (a_global g ∷ is) h = replies_are is h.1
replies_are (a_write w ∷ is) h = replies_are is h.1
replies_are (a_call c ∷ is) h = replies_are is h.1
replies_are (a_reply r ∷ is) h = All-cons ReplyIs r (replies_of is) h.0 (replies_are is h.1)

collected_writes : (r : Result (List Item) ℕ) → Gives r → (s : ScriptPlain) → if_all r ≡ Ok s → WritesBytes s
collected_writes (Ok is) h s e =
    let same : collected is ≡ s = cc e in
    subst WritesBytes same (record { before = writes_are is (h is refl); replied = replies_are is (h is refl) })
collected_writes (Err n) h s e = absurd (cc e)

pub said_write_bytes : (text : List ℕ) (s : ScriptPlain) → said_script text ≡ Ok s → WritesBytes s
unfolding said_script
said_write_bytes text s is = collected_writes (items_of 1 (lines_of text)) (lines_give 1 (lines_of text)) s is
