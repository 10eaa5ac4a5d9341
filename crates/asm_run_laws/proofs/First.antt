-- The place where a session begins.
use Rattle.std.proofs.Common.{◌≡◌, ℕ, suc, ◌+◌, ◌<◌, ◌≤◌, Bool, true, false, List, [], ◌∷◌, length, map, replicate, Some, None, refl, ap, ◌∙◌, arith}
use Rattle.std.specs.Prelude.{if◌then◌else◌, slice_get, ◌&&◌, nat_le}
use Rattle.std.specs.List.{All, AllByRecursion, list_all}
use Rattle.std.proofs.lemmas.Bool.{and_parts, and_from}
use Rattle.std.proofs.lemmas.Bool.Decides.{nat_tests}
use Rattle.std.proofs.lemmas.List.{length-replicate}
use Rattle.std.proofs.lemmas.List.Elements.{All-from_recursion, recursion_from_All, All-replicate}
use Rattle.heap_lang.specs.Numbers.{IsBytes}
use Rattle.heap_lang.specs.Heap.{with_run}
use Rattle.heap_lang.proofs.RunLemmas.{length-with_run, IsBytes-with_run}
use Rattle.session_lang.specs.Script.{WritePlain, CallPlain, ReplyPlain, give, throw, ReplyLinePlain, ScriptPlain}
use Rattle.session_lang.specs.Fits.{are_bytes, writes_of}
use Rattle.session_lang.specs.FitLaws.{a_write, a_call, a_reply, Fits}
use Rattle.session_lang.specs.Written.{WritesBytes}
use Rattle.session_lang.proofs.Misfits.{no_misfit_fits}
use Rattle.asm_lang.specs.Trees.{Init, number, decimal, foreign_int, foreign_double, member, math, view}
use Rattle.asm_lang.specs.Modules.{Variable, Module}
use Rattle.asm_lang_valid.specs.Refusal.{has_heap}
use Rattle.asm_lang_exec.specs.Values.{with_writes}
use Rattle.asm_lang_exec.specs.Session.{first_globals, heap_length, first_place}
use Rattle.asm_lang_exec.specs.Fits.{fits_write, fits_call, fits_reply, tests, misfit}
use Rattle.asm_lang_exec.proofs.Written.{fitting_writes}
use Rattle.asm2wasm_translation.specs.Numbers.{int_variables}
use Rattle.asm2wasm_laws_run.specs.State.{names, Stays}
use Rattle.asm_run_laws.specs.Places.{Holds}
use Rattle.asm_run_laws.specs.Hosts.{nothing}

holds_or : (b : Bool) → (b ≡ false → ⊥) → b ≡ true
holds_or true h = refl
holds_or false h = absurd (h refl)

all_from_places : {A : Type 0} → (P : A → Type 0) (xs : List A) → ((i : ℕ) (x : A) → slice_get xs i ≡ Some x → P x) → AllByRecursion P xs
all_from_places P [] h = tt
all_from_places P (x ∷ xs) h = (h 0 x refl, all_from_places P xs (λ i y e. h (suc i) y e))

-- ---- bytes

stays_where : (b : Bool) (size : ℕ) (x : WritePlain) → (b && nat_le (x.at + length x.bytes) size) ≡ true → x.at + length x.bytes ≤ (if b then size else 0)
stays_where true size x h = grind (arith, nat_tests)
stays_where false size x h = absurd (cc h)

length_stays : (ws : List WritePlain) (heap : List ℕ) → length (with_writes ws heap) ≡ length heap
length_stays [] heap = refl
length_stays (w ∷ ws) heap = length_stays ws (with_run w.at w.bytes heap) ∙ length-with_run w.at w.bytes heap

bytes_stay : (n : ℕ) (ws : List WritePlain) (heap : List ℕ) → AllByRecursion (Stays n) ws → IsBytes heap → IsBytes (with_writes ws heap)
bytes_stay n [] heap all h = h
bytes_stay n (w ∷ ws) heap all h = bytes_stay n ws (with_run w.at w.bytes heap) all.1 (IsBytes-with_run w.at w.bytes heap all.0.bytes h)

-- ---- variables

names_are : (s : ScriptPlain) (vs : List Variable) → names (first_globals s vs) ≡ map (λ (v : Variable). v.name) (int_variables vs)
names_are s [] = refl
names_are s (v ∷ vs) = by v.init (names_are s vs)
  where
    by : (i : Init) → names (first_globals s vs) ≡ map (λ (v : Variable). v.name) (int_variables vs)
        → let v' : Variable = record v { init = i } in names (first_globals s (v' ∷ vs)) ≡ map (λ (v : Variable). v.name) (int_variables (v' ∷ vs))
    by (number z) rest = ap (λ ns. v.name ∷ ns) rest
    by (foreign_int f p) rest = ap (λ ns. v.name ∷ ns) rest
    by (decimal bs) rest = rest
    by (foreign_double f p) rest = rest
    by (member f p) rest = rest
    by (math f p) rest = rest
    by (view f p q) rest = rest

module _ (m : Module) (size : ℕ) (s : ScriptPlain) (fit : misfit m size s ≡ None) where
  abbrev long : ℕ
  long = heap_length m size

  fits : Fits (tests m size) s
  fits = no_misfit_fits (tests m size) s fit

  bytes : WritesBytes s
  bytes = fitting_writes m size s fit

  stays : (x : WritePlain) → fits_write m size x ≡ true → IsBytes x.bytes → Stays long x
  stays x h bytes = record { within = stays_where (has_heap m) size x (and_parts (are_bytes x.bytes) (has_heap m && nat_le (x.at + length x.bytes) size) h).1; bytes = bytes }

  all_stay : (xs : List WritePlain) → list_all (fits_write m size) xs ≡ true → AllByRecursion (λ (x : WritePlain). IsBytes x.bytes) xs → AllByRecursion (Stays long) xs
  all_stay [] h all = tt
  all_stay (x ∷ xs) h all = let p = and_parts (fits_write m size x) (list_all (fits_write m size) xs) h in (stays x p.0 all.0, all_stay xs p.1 all.1)

  abbrev Replied : ReplyPlain → Type 0
  Replied r = All (Stays long) (writes_of r)

  reply_stays : (r : ReplyPlain) → fits_reply m size r ≡ true → All (λ (x : WritePlain). IsBytes x.bytes) (writes_of r) → Replied r
  reply_stays (give word ws) h all = All-from_recursion (Stays long) ws (all_stay ws h (recursion_from_All (λ (x : WritePlain). IsBytes x.bytes) ws all))
  reply_stays throw h all = All-from_recursion (Stays long) [] tt

  each : (xs : List WritePlain) → AllByRecursion (λ (x : WritePlain). fits_write m size x ≡ true) xs → list_all (fits_write m size) xs ≡ true
  each [] all = refl
  each (x ∷ xs) all = and_from (fits_write m size x) (list_all (fits_write m size) xs) all.0 (each xs all.1)

  writes_stay : AllByRecursion (Stays long) s.writes
  writes_stay =
      all_stay s.writes (each s.writes (all_from_places (λ (x : WritePlain). fits_write m size x ≡ true) s.writes (λ i x e. holds_or (fits_write m size x) (λ h. fits.all_fit x.line (a_write i x e h)))))
      (recursion_from_All (λ (x : WritePlain). IsBytes x.bytes) s.writes bytes.before)

  replied : (rs : List ReplyLinePlain) → AllByRecursion (λ (r : ReplyLinePlain). fits_reply m size r.reply ≡ true) rs
      → AllByRecursion (λ (r : ReplyLinePlain). All (λ (x : WritePlain). IsBytes x.bytes) (writes_of r.reply)) rs → AllByRecursion Replied (map (λ (r : ReplyLinePlain). r.reply) rs)
  replied [] fit low = tt
  replied (r ∷ rs) fit low = (reply_stays r.reply fit.0 low.0, replied rs fit.1 low.1)

  replies_stay : All Replied (map (λ (r : ReplyLinePlain). r.reply) s.replies)
  replies_stay =
      All-from_recursion Replied (map (λ (r : ReplyLinePlain). r.reply) s.replies)
      (replied s.replies (all_from_places (λ (r : ReplyLinePlain). fits_reply m size r.reply ≡ true) s.replies (λ i r e. holds_or (fits_reply m size r.reply) (λ h. fits.all_fit r.line (a_reply i r e h))))
      (recursion_from_All (λ (r : ReplyLinePlain). All (λ (x : WritePlain). IsBytes x.bytes) (writes_of r.reply)) s.replies bytes.replied))

  pub begins_holding : (units : ℕ) → Holds m size nothing (first_place m size s units)
  begins_holding units = record {
    locals = refl;
    globals = names_are s m.globals;
    heap = length_stays s.writes (replicate long 0) ∙ length-replicate long 0;
    bytes = bytes_stay long s.writes (replicate long 0) writes_stay (All-replicate (λ b. b < 256) long 0 (omega arith));
    replies = replies_stay;
  }

  pub calls_fit : AllByRecursion (λ (c : CallPlain). fits_call m c ≡ true) s.calls
  calls_fit = all_from_places (λ (c : CallPlain). fits_call m c ≡ true) s.calls (λ i c e. holds_or (fits_call m c) (λ h. fits.all_fit c.line (a_call i c e h)))
