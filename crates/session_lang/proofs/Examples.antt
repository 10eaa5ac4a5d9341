-- Worked examples of the definitions, which the check computes.
use Rattle.std.proofs.Common.{◌≡◌, ◌+◌, ◌*◌, ◌^◌, true, false, [], ◌∷◌, codes, pos, negsuc, refl}
use Rattle.hex.specs.Hex.{encode_with}
use Rattle.sem_words.specs.declared.word.Word.TheVariants.{W32, W64}
use Rattle.sem_words.specs.declared.word.TrapKind.TheVariants.{Memory}
use Rattle.session_lang.specs.Script.{give, throw, ScriptPlain}
use Rattle.session_lang.specs.Observation.{import_called, call_gave, call_returned, done, stopped, no_reply, trapped, running, ended, IsBelow}
use Rattle.session_lang.specs.Imports.{goes_on, ends, answer_import}
use Rattle.session_lang.specs.Names.{is_plain_name, import_name, export_name}
use Rattle.session_lang.specs.Simulation.{HeapsAgree, SourceIsBelow, TargetIsBelow}
use Rattle.session_lang.specs.CallingForms.{ShapePlain, script_to_wasm, split, split_args, split_event, without_init, comparison_to_asm}

-- ---- names

proto_is_not_plain : is_plain_name (codes "__proto__") ≡ false
proto_is_not_plain = refl

digit_starts_no_name : is_plain_name (codes "0a") ≡ false
digit_starts_no_name = refl

empty_is_not_plain : is_plain_name [] ≡ false
empty_is_not_plain = refl

import_from_env : import_name (codes "env") (codes "f") ≡ codes "f"
import_from_env = refl

import_from_elsewhere : import_name (codes "a") (codes "b") ≡ codes "$x61$62"
unfolding encode_with
import_from_elsewhere = refl

import_of_trap : import_name (codes "env") (codes "$trap") ≡ codes "$trap"
import_of_trap = refl

-- a field that begins as the other names do is spelled as they are
import_of_marked_name : import_name (codes "env") (codes "$xK") ≡ codes "$x656e76$24784b"
unfolding encode_with
import_of_marked_name = refl

export_of_empty : export_name [] ≡ codes "$x"
unfolding encode_with
export_of_empty = refl

export_of_hi : export_name (codes "$hi") ≡ codes "$x246869"
unfolding encode_with
export_of_hi = refl

export_of_plain : export_name (codes "_put") ≡ codes "_put"
export_of_plain = refl

-- ---- below

-- a trap is below the call of the trap import with its number, and the other way round
trap_is_the_trap_import : IsBelow (ended (call_gave (W32 84148994) ∷ []) (trapped Memory) (1 ∷ 2 ∷ [])) (ended (call_gave (W32 84148994) ∷ []) (stopped (codes "$trap") (W32 2 ∷ [])) (1 ∷ 2 ∷ []))
trap_is_the_trap_import = record { events = refl; end = refl; heap = refl }

trap_import_is_the_trap : IsBelow (ended [] (stopped (codes "$trap") (W32 2 ∷ [])) []) (ended [] (trapped Memory) [])
trap_import_is_the_trap = record { events = refl; end = refl; heap = refl }

-- a session that is still running goes on to more events and to an end
running_goes_on : IsBelow (running (import_called (codes "g") [] ∷ [])) (ended (import_called (codes "g") [] ∷ call_returned ∷ []) done [])
running_goes_on = (call_returned ∷ [], refl)

-- ---- imports

-- a reply is taken, its writes are made, and the call is an event
reply_is_taken : answer_import (codes "f") (W32 1 ∷ []) (record { left = give (7 + 5 * 2 ^ 32) (record { at = 4; bytes = 9 ∷ []; line = 3 } ∷ []) ∷ throw ∷ []; last = 0 })
    ≡ goes_on (record { word = 7 + 5 * 2 ^ 32; writes = record { at = 4; bytes = 9 ∷ []; line = 3 } ∷ []; events = import_called (codes "f") (W32 1 ∷ []) ∷ []; replies = record { left = throw ∷ []; last = 7 + 5 * 2 ^ 32 } })
reply_is_taken = refl

-- then `$high` gives the reply's high bits, takes no reply and is no event
high_of_last_reply : answer_import (codes "$high") [] (record { left = throw ∷ []; last = 7 + 5 * 2 ^ 32 })
    ≡ goes_on (record { word = 5; writes = []; events = []; replies = record { left = throw ∷ []; last = 7 + 5 * 2 ^ 32 } })
high_of_last_reply = refl

high_of_no_reply : answer_import (codes "$high") [] (record { left = []; last = 0 })
    ≡ goes_on (record { word = 0; writes = []; events = []; replies = record { left = []; last = 0 } })
high_of_no_reply = refl

trap_takes_no_reply : answer_import (codes "$trap") (W32 2 ∷ []) (record { left = give 1 [] ∷ []; last = 0 }) ≡ ends (stopped (codes "$trap") (W32 2 ∷ []))
trap_takes_no_reply = refl

throw_stops : answer_import (codes "g") [] (record { left = throw ∷ []; last = 0 }) ≡ ends (stopped (codes "g") [])
throw_stops = refl

no_reply_is_left : answer_import (codes "g") [] (record { left = []; last = 3 }) ≡ ends (no_reply (codes "g") [])
no_reply_is_left = refl

-- ---- calling forms

abbrev adds : ShapePlain
adds = record { key = codes "m"; wide = true ∷ true ∷ []; wide_result = true }

-- `call m 4294967295 4294967295`, where the parameters and the result are 64-bit words
abbrev add_script : ScriptPlain
add_script = record { globals = []; writes = []; calls = record { name = codes "m"; args = pos 4294967295 ∷ pos 4294967295 ∷ []; line = 1 } ∷ []; replies = [] }

add_script_split : split (adds ∷ []) add_script
    ≡ record {
      globals = [];
      writes = [];
      calls = record { name = codes "$init"; args = []; line = 0 }
          ∷ record { name = codes "m"; args = pos 4294967295 ∷ pos 0 ∷ pos 4294967295 ∷ pos 0 ∷ []; line = 1 }
          ∷ record { name = codes "$hi"; args = []; line = 1 }
          ∷ [];
      replies = [];
    }
add_script_split = refl

-- -1 is 2^64 - 1, and a 32-bit argument stays as it is
negative_words : split_args (true ∷ false ∷ []) (negsuc 0 ∷ negsuc 0 ∷ []) ≡ pos 4294967295 ∷ pos 4294967295 ∷ negsuc 0 ∷ []
negative_words = refl

wide_result_is_two : split_event (call_gave (W64 8589934590)) ≡ call_gave (W32 4294967294) ∷ call_gave (W32 1) ∷ []
wide_result_is_two = refl

wide_argument_is_two : split_event (import_called (codes "f") (W32 3 ∷ W64 (2 ^ 32) ∷ [])) ≡ import_called (codes "f") (W32 3 ∷ W32 0 ∷ W32 1 ∷ []) ∷ []
wide_argument_is_two = refl

init_taken_away : without_init (import_called (codes "g") [] ∷ call_returned ∷ call_returned ∷ []) ≡ import_called (codes "g") [] ∷ call_returned ∷ []
init_taken_away = refl

-- a foreign name that begins with `$x` has another name in WebAssembly
foreign_global_renamed : script_to_wasm (record { globals = record { name = codes "$x"; value = pos 1; line = 1 } ∷ []; writes = []; calls = []; replies = [] })
    ≡ record { globals = record { name = codes "$x656e76$2478"; value = pos 1; line = 1 } ∷ []; writes = []; calls = []; replies = [] }
unfolding encode_with
foreign_global_renamed = refl

-- ---- heaps: two bytes of the source's, and past them what was there first
page_past_the_heap : HeapsAgree (0 ∷ 0 ∷ 0 ∷ 5 ∷ []) (7 ∷ 8 ∷ []) (7 ∷ 8 ∷ 0 ∷ 5 ∷ [])
page_past_the_heap = record { same = refl; kept = refl }

-- ---- a WebAssembly session and its asm.js session: a 64-bit result, and then a trap with a heap of two bytes in four
trap_shown_in_asm : SourceIsBelow (comparison_to_asm (0 ∷ 0 ∷ 0 ∷ 5 ∷ []))
    (ended (call_gave (W64 8589934590) ∷ []) (trapped Memory) (7 ∷ 8 ∷ []))
    (ended (call_returned ∷ call_gave (W32 4294967294) ∷ call_gave (W32 1) ∷ []) (stopped (codes "$trap") (W32 2 ∷ [])) (7 ∷ 8 ∷ 0 ∷ 5 ∷ []))
trap_shown_in_asm = record { events = refl; end = refl; heap = record { same = refl; kept = refl } }

-- between the low and the high word the asm.js session has shown a part of what the other shows
low_word_shown_first : TargetIsBelow (comparison_to_asm []) (running (call_returned ∷ call_gave (W32 4294967294) ∷ [])) (running (call_gave (W64 8589934590) ∷ []))
low_word_shown_first = (call_gave (W32 1) ∷ [], refl)
