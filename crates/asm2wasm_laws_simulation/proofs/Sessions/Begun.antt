-- Where the sessions of a script begin in both languages: the target's store is that of the source's place.
use Rattle.std.proofs.Common.{◌≡◌, ℕ, suc, ◌+◌, ◌-◌, ◌*◌, ◌<◌, ◌≤◌, Bool, true, false, not, List, [], ◌∷◌, ◌++◌, length, map, take, replicate, Some, None, ℤ, refl, sym, ap, ◌∙◌, subst, arith}
use Rattle.std.specs.Prelude.{if◌then◌else◌, slice_get, option_map, ◌&&◌, ◌||◌, bytes_eq, codes, nat_le}
use Rattle.std.specs.List.{All, AllByRecursion, list_all}
use Rattle.std.proofs.lemmas.Bool.{and_parts, and_from}
use Rattle.std.proofs.lemmas.Bool.Decides.{nat_tests}
use Rattle.std.proofs.lemmas.List.{replicate-append-replicate, length-replicate}
use Rattle.std.proofs.lemmas.List.Elements.{All-from_recursion, recursion_from_All, All-replicate}
use Rattle.std.proofs.lemmas.Option.{slice_get-map}
use Rattle.std.proofs.lemmas.Slice.Eq.{bytes_eq-Decides}
use Rattle.hex.specs.Hex as plain
use Rattle.sem_words.specs.declared.word.Word.{Word}
use Rattle.sem_words.specs.declared.word.Word.TheVariants.{W32}
use Rattle.sem_words.specs.Words.{word_of, signed_of}
use Rattle.sem_words.proofs.WordLaws.{word_of-IsWord, word_of-signed_of_32}
use Rattle.heap_lang.specs.Numbers.{IsBytes}
use Rattle.session_lang.specs.Script.{GlobalPlain, WritePlain, ReplyPlain, give, throw, ReplyLinePlain, ScriptPlain}
use Rattle.session_lang.specs.Imports.{first_replies}
use Rattle.session_lang.specs.CallingForms.{foreign_import, global_to_wasm, script_to_wasm}
use Rattle.session_lang.proofs.NameLaws.{different_imports_have_different_names}
use Rattle.session_lang.specs.Fits.{is_given, are_bytes}
use Rattle.session_lang.specs.FitLaws.{a_global, a_write, a_reply, Fits}
use Rattle.wasm_lang.specs.declared.types.ValType.TheVariants.{I32}
use Rattle.wasm_lang.specs.declared.types.ImportKind.TheVariants as imports
use Rattle.wasm_lang.specs.Modules.{Imported, GlobalEntry, ElementSegment, WasmModule}
use Rattle.wasm_lang_valid.specs.Runnable.{pages}
use Rattle.wasm_lang_exec.specs.Store.{Store, written, page}
use Rattle.wasm_lang_exec.specs.Session as machine
use Rattle.wasm_lang_exec.specs.Session.{imported_globals, some_or_zero, value_of, bytes_in, first_memory, first_store, with_entries, with_bytes, instantiated, calls_seen, wasm}
use Rattle.asm_lang.specs.Trees.{Init, number, decimal, foreign_int, foreign_double, member, math, view}
use Rattle.asm_lang.specs.Modules.{Variable, Module}
use Rattle.asm_lang_valid.specs.Scope.{is_in}
use Rattle.asm_lang_valid.specs.LimitRows.{ForeignCall, foreign_calls}
use Rattle.asm_lang_valid.specs.Refusal.{foreign_globals, has_heap}
use Rattle.asm_lang_exec.specs.Values.{with_writes}
use Rattle.asm_lang_exec.specs.Session as source
use Rattle.asm_lang_exec.specs.Session.{first_globals, heap_length, first_heap, first_place}
use Rattle.asm_lang_exec.specs.Fits.{in_range, fits_global, fits_write, fits_reply, tests}
use Rattle.asm2wasm_lang.specs.Heaps.{pages_for}
use Rattle.asm2wasm_lang.specs.Calling.{exactly}
use Rattle.session_lang.specs.Fits.{writes_of}
use Rattle.session_lang.specs.Written.{WritesBytes}
use Rattle.asm2wasm_translation.specs.Numbers.{slot_of, int_variables}
use Rattle.asm2wasm_translation.specs.Modules.{from_env, imported_function, imported_global, imported_memory, or_zero, global_for, translation}
use Rattle.asm2wasm_laws_heap.proofs.Writes.{writes_stay_in_front}
use Rattle.asm2wasm_laws_run.specs.State.{Fixed, words, names, store_of, Stays, AreAnswered, Holds}
use Rattle.asm2wasm_laws_preservation.proofs.Foreign.{heap_stays, bytes_stay}
use Rattle.asm2wasm_laws_acceptance.specs.Laws.{table_entries}
use Rattle.asm2wasm_laws_acceptance.proofs.Accepted.{IsImported, variables_imported}
use Rattle.asm2wasm_laws_acceptance.proofs.Callees.{tables_are_filled}
use Rattle.asm2wasm_laws_acceptance.proofs.Fitting.{pages_are}
use Rattle.asm2wasm_laws_acceptance.proofs.Bytes.{all_low}
use Rattle.asm2wasm_laws_simulation.specs.Sessions.Reached.{host, fixed_for}

-- ---- what fits

pub holds_or : (b : Bool) → (b ≡ false → ⊥) → b ≡ true
holds_or true h = refl
holds_or false h = absurd (h refl)

pub all_from_places : {A : Type 0} → (P : A → Type 0) (xs : List A) → ((i : ℕ) (x : A) → slice_get xs i ≡ Some x → P x) → AllByRecursion P xs
all_from_places P [] h = tt
all_from_places P (x ∷ xs) h = (h 0 x refl, all_from_places P xs (λ i y e. h (suc i) y e))

or_second : (a b : Bool) → b ≡ true → (a || b) ≡ true
or_second true b h = refl
or_second false b h = h

first_in : (x : List ℕ) (xs : List (List ℕ)) → is_in x (x ∷ xs) ≡ true
first_in x xs = ap (λ b. b || is_in x xs) ((bytes_eq-Decides x x).1 refl)

-- ---- bytes

stays_where : (b : Bool) (size : ℕ) (x : WritePlain) → (b && nat_le (x.at + length x.bytes) size) ≡ true → x.at + length x.bytes ≤ (if b then size else 0)
stays_where true size x h = grind (arith, nat_tests)
stays_where false size x h = absurd (cc h)

module _ (m : Module) (size : ℕ) where
  abbrev long : ℕ
  long = heap_length m size

  stays : (x : WritePlain) → fits_write m size x ≡ true → IsBytes x.bytes → Stays long x
  stays x h bytes = record { within = stays_where (has_heap m) size x (and_parts (are_bytes x.bytes) (has_heap m && nat_le (x.at + length x.bytes) size) h).1; bytes = bytes }

  all_stay : (xs : List WritePlain) → list_all (fits_write m size) xs ≡ true → AllByRecursion (λ (x : WritePlain). IsBytes x.bytes) xs → AllByRecursion (Stays long) xs
  all_stay [] h all = tt
  all_stay (x ∷ xs) h all = let p = and_parts (fits_write m size x) (list_all (fits_write m size) xs) h in (stays x p.0 all.0, all_stay xs p.1 all.1)

  abbrev pub Replied : ReplyPlain → Type 0
  Replied r = All (Stays long) (writes_of r)

  reply_stays : (r : ReplyPlain) → fits_reply m size r ≡ true → All (λ (x : WritePlain). IsBytes x.bytes) (writes_of r) → Replied r
  reply_stays (give word ws) h all = All-from_recursion (Stays long) ws (all_stay ws h (recursion_from_All (λ (x : WritePlain). IsBytes x.bytes) ws all))
  reply_stays throw h all = All-from_recursion (Stays long) [] tt

within_all : (n : ℕ) (ws : List WritePlain) → AllByRecursion (Stays n) ws → AllByRecursion (λ (w : WritePlain). w.at + length w.bytes ≤ n) ws
within_all n [] all = tt
within_all n (w ∷ ws) all = (all.0.within, within_all n ws all.1)

-- ---- imported values

-- a name is given where its import is
module _ (env : plain.IsBytes (codes "env")) where
  same_test : (a b : List ℕ) → plain.IsBytes a → plain.IsBytes b → bytes_eq (foreign_import a) (foreign_import b) ≡ bytes_eq a b
  same_test a b low high = by (bytes_eq a b) (bytes_eq (foreign_import a) (foreign_import b)) refl refl
    where
      by : (s t : Bool) → bytes_eq a b ≡ s → bytes_eq (foreign_import a) (foreign_import b) ≡ t → t ≡ s
      by true true e f = refl
      by false false e f = refl
      by true false e f = let test = (bytes_eq-Decides (foreign_import a) (foreign_import b)).1 (ap foreign_import ((bytes_eq-Decides a b).0 e)) in absurd (cc (f, test))
      by false true e f =
          let is = different_imports_have_different_names (codes "env") a (codes "env") b env low env high ((bytes_eq-Decides (foreign_import a) (foreign_import b)).0 f) in
          let test = (bytes_eq-Decides a b).1 is.1 in
          absurd (cc (e, test))

  given_same : (gs : List GlobalPlain) (n : List ℕ) → AllByRecursion (λ (g : GlobalPlain). plain.IsBytes g.name) gs → plain.IsBytes n
      → machine.given_value (map global_to_wasm gs) (foreign_import n) I32 ≡ W32 (word_of 32 (source.given_value gs n))
  given_same [] n all h = refl
  given_same (g ∷ gs) n all h =
      ap (λ b. if b then W32 (word_of 32 g.value) else machine.given_value (map global_to_wasm gs) (foreign_import n) I32) (same_test g.name n all.0 h) ∙ by (bytes_eq g.name n) (given_same gs n all.1 h)
    where
      by : (b : Bool) → machine.given_value (map global_to_wasm gs) (foreign_import n) I32 ≡ W32 (word_of 32 (source.given_value gs n))
          → (if b then W32 (word_of 32 g.value) else machine.given_value (map global_to_wasm gs) (foreign_import n) I32) ≡ W32 (word_of 32 (if b then g.value else source.given_value gs n))
      by true rest = refl
      by false rest = rest

env_bytes : plain.IsBytes (codes "env")
env_bytes = all_low (codes "env") (omega arith, (omega arith, (omega arith, tt)))

slot_there : (n : List ℕ) (xs : List (List ℕ)) → is_in n xs ≡ true → (i : ℕ) × (slot_of xs n ≡ Some i) × (slice_get xs i ≡ Some n)
slot_there n [] h = absurd (cc h)
slot_there n (x ∷ xs) h = by (bytes_eq x n) refl (slot_there n xs) h
  where
    by : (b : Bool) → bytes_eq x n ≡ b → (is_in n xs ≡ true → (i : ℕ) × (slot_of xs n ≡ Some i) × (slice_get xs i ≡ Some n)) → (b || is_in n xs) ≡ true
        → (i : ℕ) × ((if b then Some 0 else option_map (λ i. suc i) (slot_of xs n)) ≡ Some i) × (slice_get (x ∷ xs) i ≡ Some n)
    by true e rest h = (0, refl, ap Some ((bytes_eq-Decides x n).0 e))
    by false e rest h = let (i, is, there) = rest h in (suc i, ap (option_map (λ i. suc i)) is, there)

-- the machine's script gives the same values
module _ (m : Module) (size : ℕ) (s to : ScriptPlain) (same : to.globals ≡ map global_to_wasm s.globals) where
  abbrev w : WasmModule
  w = translation m size

  abbrev asked : List ℕ → Word
  asked n = W32 (word_of 32 (source.given_value s.globals n))

  abbrev source_number : List ℕ → ℤ
  source_number n = signed_of 32 (word_of 32 (source.given_value s.globals n))

  abbrev given_of : List ℕ → Word
  given_of n = machine.given_value to.globals (foreign_import n) I32

  no_globals : (b : Bool) → imported_globals to (if b then from_env (codes "memory") (imports.Memory (exactly (pages_for size))) ∷ [] else []) ≡ []
  no_globals true = refl
  no_globals false = refl

  globals_asked : (gs : List (List ℕ)) → imported_globals to (map imported_global gs ++ imported_memory m size) ≡ map given_of gs
  globals_asked [] = no_globals (has_heap m)
  globals_asked (g ∷ gs) = ap (λ ws. given_of g ∷ ws) (globals_asked gs)

  functions_past : (fs : List ForeignCall) (rest : List Imported) → imported_globals to (map (imported_function m) fs ++ rest) ≡ imported_globals to rest
  functions_past [] rest = refl
  functions_past (f ∷ fs) rest = functions_past fs rest

  all_given : (gs : List (List ℕ)) → AllByRecursion (λ (g : GlobalPlain). plain.IsBytes g.name) s.globals → AllByRecursion plain.IsBytes gs → map given_of gs ≡ map asked gs
  all_given [] all bytes = refl
  all_given (g ∷ gs) all bytes = ap (λ v. v ∷ map given_of gs) (ap (λ globals. machine.given_value globals (foreign_import g) I32) same ∙ given_same env_bytes s.globals g all bytes.0) ∙ ap (λ ws. asked g ∷ ws) (all_given gs all bytes.1)

  pub given_is : AllByRecursion (λ (g : GlobalPlain). plain.IsBytes g.name) s.globals → AllByRecursion plain.IsBytes (foreign_globals m) → imported_globals to w.imports ≡ map asked (foreign_globals m)
  given_is all bytes =
      functions_past (foreign_calls m) (map imported_global (foreign_globals m) ++ imported_memory m size) ∙ globals_asked (foreign_globals m) ∙ all_given (foreign_globals m) all bytes

  -- ---- the module's own variables

  module _ (given : List Word) (is : given ≡ map asked (foreign_globals m)) where
    abbrev first : GlobalEntry → Word
    first g = value_of given g.init

    found : (p : List ℕ) → is_in p (foreign_globals m) ≡ true → some_or_zero (slice_get given (or_zero (slot_of (foreign_globals m) p))) ≡ asked p
    found p h =
        let (i, slot, there) = slot_there p (foreign_globals m) h in
        ap (λ o. some_or_zero (slice_get given (or_zero o))) slot ∙ ap (λ ws. some_or_zero (slice_get ws i)) is ∙ ap some_or_zero (slice_get-map asked (foreign_globals m) i ∙ ap (option_map asked) there)

    foreign_value : (p : List ℕ) → is_in p (foreign_globals m) ≡ true → some_or_zero (slice_get given (or_zero (slot_of (foreign_globals m) p))) ≡ W32 (word_of 32 (source_number p))
    foreign_value p h = found p h ∙ ap W32 (sym (word_of-signed_of_32 (word_of 32 (source.given_value s.globals p)) (word_of-IsWord 32 (source.given_value s.globals p))))

    own_are : (vs : List Variable) → AllByRecursion (λ (v : Variable). IsImported (foreign_globals m) v.init) vs → map first (map (global_for m) (int_variables vs)) ≡ words (first_globals s vs)
    own_are [] all = refl
    own_are (v ∷ vs) all = by v.init all.0 (own_are vs all.1)
      where
        by : (i : Init) → IsImported (foreign_globals m) i → map first (map (global_for m) (int_variables vs)) ≡ words (first_globals s vs)
            → let v' : Variable = record v { init = i } in map first (map (global_for m) (int_variables (v' ∷ vs))) ≡ words (first_globals s (v' ∷ vs))
        by (number z) h rest = ap (λ ws. W32 (word_of 32 z) ∷ ws) rest
        by (foreign_int f p) h rest = ap (λ x. x ∷ map first (map (global_for m) (int_variables vs))) (foreign_value p h) ∙ ap (λ ws. W32 (word_of 32 (source_number p)) ∷ ws) rest
        by (decimal bs) h rest = rest
        by (foreign_double f p) h rest = rest
        by (member f p) h rest = rest
        by (math f p) h rest = rest
        by (view f p q) h rest = rest

  globals_are : AllByRecursion (λ (g : GlobalPlain). plain.IsBytes g.name) s.globals → AllByRecursion plain.IsBytes (foreign_globals m)
      → map (λ (g : GlobalEntry). value_of (imported_globals to w.imports) g.init) w.globals ≡ words (first_globals s m.globals)
  globals_are all bytes = own_are (imported_globals to w.imports) (given_is all bytes) m.globals (variables_imported m)

module _ (m : Module) (size : ℕ) (s : ScriptPlain) where
  names_are : (vs : List Variable) → names (first_globals s vs) ≡ map (λ (v : Variable). v.name) (int_variables vs)
  names_are [] = refl
  names_are (v ∷ vs) = by v.init (names_are vs)
    where
      by : (i : Init) → names (first_globals s vs) ≡ map (λ (v : Variable). v.name) (int_variables vs)
          → let v' : Variable = record v { init = i } in names (first_globals s (v' ∷ vs)) ≡ map (λ (v : Variable). v.name) (int_variables (v' ∷ vs))
      by (number z) rest = ap (λ ns. v.name ∷ ns) rest
      by (foreign_int f p) rest = ap (λ ns. v.name ∷ ns) rest
      by (decimal bs) rest = rest
      by (foreign_double f p) rest = rest
      by (member f p) rest = rest
      by (math f p) rest = rest
      by (view f p q) rest = rest

  -- ---- the place

  abbrev in_heap : ℕ
  in_heap = heap_length m size

  pub heap_long : length (first_heap m size s) ≡ in_heap
  heap_long = heap_stays s.writes (replicate in_heap 0) ∙ length-replicate in_heap 0

  -- what fits, part by part
  pub record FitsTo : Type 0 where
    pub writes : AllByRecursion (Stays in_heap) s.writes
    pub replies : All (Replied m size) (map (λ (r : ReplyLinePlain). r.reply) s.replies)
    pub named : AllByRecursion (λ (g : GlobalPlain). plain.IsBytes g.name) s.globals
    pub asks : AllByRecursion plain.IsBytes (foreign_globals m)

  pub begins_holding : (x : Fixed) → AreAnswered x in_heap (first_replies s).left → FitsTo → (units : ℕ) → Holds x m size host (first_place m size s units)
  begins_holding x answered fits units = record {
    locals = refl;
    globals = names_are m.globals;
    heap = heap_long;
    bytes = bytes_stay in_heap s.writes (replicate in_heap 0) fits.writes (All-replicate (λ b. b < 256) in_heap 0 (omega arith));
    replies = answered;
  }

  -- ---- the store

  abbrev made : WasmModule
  made = translation m size

  entries_keep : (es : List ElementSegment) (st : Store) → with_entries es st ≡ record st { table = (with_entries es st).table }
  entries_keep [] st = refl
  entries_keep (e ∷ es) st = entries_keep es (with_entries (e ∷ []) st)

  -- what the machine's script begins with, in the words of the text's
  pub record Starts (to : ScriptPlain) (x : Fixed) : Type 0 where
    pub globals : to.globals ≡ map global_to_wasm s.globals
    pub calls : to.calls ≡ s.calls
    pub memory : first_memory made to ≡ first_heap m size s ++ x.past (first_replies s).left
    pub replies : (first_replies to).left ≡ x.replied (first_replies s).left
    pub given : x.given ≡ imported_globals to made.imports
    pub entries : x.entries ≡ table_entries m
    pub answered : AreAnswered x in_heap (first_replies s).left

  module _ (to : ScriptPlain) (x : Fixed) (starts : Starts to x) (fits : FitsTo) where
    pub store_is : (units : ℕ) → with_bytes made.segments (with_entries made.elements (first_store made to)) ≡ store_of x (first_place m size s units)
    store_is units =
        let st = first_store made to in
        let given = imported_globals to made.imports in
        let past = x.past (first_replies s).left in
        let first = words (first_globals s m.globals) in
        entries_keep made.elements st ∙ ap (λ t. record st { table = t }) ((tables_are_filled m size to).1 ∙ sym starts.entries) ∙ ap (λ b. record st { table = x.entries; memory = b }) starts.memory
        ∙ ap (λ ws. record st { table = x.entries; memory = first_heap m size s ++ past; globals = given ++ ws }) (globals_are m size s to starts.globals fits.named fits.asks)
        ∙ ap (λ given. record st { table = x.entries; memory = first_heap m size s ++ past; globals = given ++ first }) (sym starts.given)
        ∙ ap (λ left. record st { table = x.entries; memory = first_heap m size s ++ past; globals = x.given ++ first; replies = record { left = left; last = 0 } }) starts.replies

    -- ---- the session

    pub session_begins : (units k : ℕ) → wasm made to (1 + k) ≡ calls_seen made s.calls k (store_of x (first_place m size s units))
    session_begins units k =
        let st = first_store made to in
        let one : 1 + k ≡ suc k = omega arith in
        ap (wasm made to) one ∙ ap (λ b. instantiated (b && true) made to k st) (tables_are_filled m size to).0 ∙ ap (λ cs. calls_seen made cs k (with_bytes made.segments (with_entries made.elements st))) starts.calls
        ∙ ap (calls_seen made s.calls k) (store_is units)

  -- ---- a script that fits the text

  long_enough : size ≤ pages_for size * page → (b : Bool) → (if b then size else 0) ≤ bytes_in (if b then Some (pages_for size) else None)
  long_enough hold true = hold
  long_enough hold false = omega arith

  pub past_it : size ≤ pages_for size * page → in_heap + (bytes_in (pages made) - in_heap) ≡ bytes_in (pages made)
  past_it hold =
      let fits : in_heap ≤ bytes_in (pages made) = subst (λ o. in_heap ≤ bytes_in o) (sym (pages_are m size)) (long_enough hold (has_heap m)) in
      omega (arith, fits)

  abbrev past : List ℕ
  past = replicate (bytes_in (pages made) - in_heap) 0

  stay_in_front : (ws : List WritePlain) (heap : List ℕ) → length heap ≡ in_heap → AllByRecursion (Stays in_heap) ws → written ws (heap ++ past) ≡ with_writes ws heap ++ past
  stay_in_front ws heap long all =
      writes_stay_in_front ws heap past
      (subst (λ n. All (λ (x : WritePlain). x.at + length x.bytes ≤ n) ws) (sym long) (All-from_recursion (λ (x : WritePlain). x.at + length x.bytes ≤ in_heap) ws (within_all in_heap ws all)))

  pub memory_is : size ≤ pages_for size * page → FitsTo → first_memory made (script_to_wasm s) ≡ first_heap m size s ++ past
  memory_is hold fits =
      ap (λ n. written s.writes (replicate n 0)) (sym (past_it hold)) ∙ ap (written s.writes) (sym (replicate-append-replicate in_heap (bytes_in (pages made) - in_heap) 0))
      ∙ stay_in_front s.writes (replicate in_heap 0) (length-replicate in_heap 0) fits.writes

  answers : (rs : List ReplyPlain) → AllByRecursion (Replied m size) rs → AreAnswered (fixed_for m size s) in_heap rs
  answers [] all = refl
  answers (throw ∷ rs) all = (rs, refl)
  answers (give word ws ∷ rs) all = (
    record { writes = ws; reply = refl; stay = all.0; memory = λ heap long. stay_in_front ws heap long (recursion_from_All (Stays in_heap) ws all.0) },
    answers rs all.1,
  )

  pub starts_alike : size ≤ pages_for size * page → FitsTo → Starts (script_to_wasm s) (fixed_for m size s)
  starts_alike hold fits = record {
    globals = refl;
    calls = refl;
    memory = memory_is hold fits;
    replies = refl;
    given = refl;
    entries = refl;
    answered = answers (first_replies s).left (recursion_from_All (Replied m size) (first_replies s).left fits.replies);
  }

  -- ---- from a script without a misfit

  pub fits_to : Fits (tests m size) s → WritesBytes s → ((n : List ℕ) → is_in n (foreign_globals m) ≡ true → plain.IsBytes n) → FitsTo
  fits_to fits bytes low = record {
    writes = all_stay m size s.writes all_written (recursion_from_All (λ (x : WritePlain). IsBytes x.bytes) s.writes bytes.before);
    replies = All-from_recursion (Replied m size) (map (λ (r : ReplyLinePlain). r.reply) s.replies) (replied s.replies fits_replies (recursion_from_All (λ (r : ReplyLinePlain). All (λ (x : WritePlain). IsBytes x.bytes) (writes_of r.reply)) s.replies bytes.replied));
    named = all_from_places (λ (g : GlobalPlain). plain.IsBytes g.name) s.globals name_bytes;
    asks = all_low_names (foreign_globals m) low;
  }
    where
      each : (xs : List WritePlain) → AllByRecursion (λ (x : WritePlain). fits_write m size x ≡ true) xs → list_all (fits_write m size) xs ≡ true
      each [] all = refl
      each (x ∷ xs) all = and_from (fits_write m size x) (list_all (fits_write m size) xs) all.0 (each xs all.1)

      all_written : list_all (fits_write m size) s.writes ≡ true
      all_written = each s.writes (all_from_places (λ (x : WritePlain). fits_write m size x ≡ true) s.writes (λ i x e. holds_or (fits_write m size x) (λ h. fits.all_fit x.line (a_write i x e h))))

      fits_replies : AllByRecursion (λ (r : ReplyLinePlain). fits_reply m size r.reply ≡ true) s.replies
      fits_replies = all_from_places (λ (r : ReplyLinePlain). fits_reply m size r.reply ≡ true) s.replies (λ i r e. holds_or (fits_reply m size r.reply) (λ h. fits.all_fit r.line (a_reply i r e h)))

      replied : (rs : List ReplyLinePlain) → AllByRecursion (λ (r : ReplyLinePlain). fits_reply m size r.reply ≡ true) rs
          → AllByRecursion (λ (r : ReplyLinePlain). All (λ (x : WritePlain). IsBytes x.bytes) (writes_of r.reply)) rs → AllByRecursion (Replied m size) (map (λ (r : ReplyLinePlain). r.reply) rs)
      replied [] fits bytes = tt
      replied (r ∷ rs) fits bytes = (reply_stays m size r.reply fits.0 bytes.0, replied rs fits.1 bytes.1)

      name_bytes : (i : ℕ) (g : GlobalPlain) → slice_get s.globals i ≡ Some g → plain.IsBytes g.name
      name_bytes i g e =
          let all = holds_or (fits_global m (take i s.globals) g) (λ h. fits.all_fit g.line (a_global i g e h)) in
          let first = and_parts (is_in g.name (foreign_globals m) && in_range g.value) (not (is_given (take i s.globals) g.name)) all in
          low g.name (and_parts (is_in g.name (foreign_globals m)) (in_range g.value) first.0).0

      all_low_names : (xs : List (List ℕ)) → ((n : List ℕ) → is_in n xs ≡ true → plain.IsBytes n) → AllByRecursion plain.IsBytes xs
      all_low_names [] low = tt
      all_low_names (x ∷ xs) low = (low x (first_in x xs), all_low_names xs (λ n h. low n (or_second (bytes_eq x n) (is_in n xs) h)))
