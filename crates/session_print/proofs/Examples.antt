-- What is printed of runs that are written out.
use Rattle.std.proofs.Common.{◌≡◌, ℕ, ◌^◌, ◌-◌, refl, List, [], ◌∷◌, ◌++◌, codes}
use Rattle.std.specs.Fmt.{digits}
use Rattle.hex.specs.Hex.{encode_with}
use Rattle.sem_words.specs.declared.word.Word.TheVariants.{W32, W64}
use Rattle.sem_words.specs.declared.word.TrapKind.TheVariants.{Memory}
use Rattle.session_lang.specs.Observation.{import_called, call_gave, call_returned, done, stopped, no_reply, trapped, running, ended}
use Rattle.script_lang.specs.Texts.{word_text, heap_lines, observation_text}

-- ---- words

least_word : word_text (W32 (2 ^ 31)) ≡ codes "-2147483648"
unfolding digits
least_word = refl

high_word : word_text (W64 (2 ^ 64 - 8589934591)) ≡ codes "-8589934591"
unfolding digits
high_word = refl

low_word : word_text (W64 4294967295) ≡ codes "4294967295"
unfolding digits
low_word = refl

-- ---- runs

no_calls : observation_text (ended [] done []) ≡ codes "end done\n"
no_calls = refl

imports_and_returns : observation_text (ended (import_called (codes "f") (W32 1 ∷ []) ∷ import_called (codes "f") (W32 1 ∷ W32 2 ∷ []) ∷ call_returned ∷ []) done []) ≡ codes "import f 1\nimport f 1 2\nreturned\nend done\n"
unfolding digits
imports_and_returns = refl

no_reply_left : observation_text (ended (import_called (codes "g") [] ∷ []) (no_reply (codes "g") []) []) ≡ codes "import g\nend no-reply g\n"
no_reply_left = refl

thrown : observation_text (ended (import_called (codes "g") [] ∷ []) (stopped (codes "g") []) []) ≡ codes "import g\nend stopped g\n"
thrown = refl

goes_on : observation_text (running (import_called (codes "g") [] ∷ [])) ≡ codes "import g\nstill running\n"
goes_on = refl

-- a load past the end, of a heap whose first bytes are told
trap_with_heap : observation_text (ended (call_gave (W32 84148994) ∷ []) (trapped Memory) (1 ∷ 2 ∷ 3 ∷ 4 ∷ 5 ∷ 0 ∷ 0 ∷ 0 ∷ 0 ∷ 0 ∷ 0 ∷ 0 ∷ 0 ∷ 0 ∷ 0 ∷ 0 ∷ []))
    ≡ codes "result 84148994\nend trap 2\nheap 0 01020304050000000000000000000000\n"
unfolding digits encode_with
trap_with_heap = refl

-- ---- heaps

zeros : List ℕ
zeros = 0 ∷ 0 ∷ 0 ∷ 0 ∷ 0 ∷ 0 ∷ 0 ∷ 0 ∷ 0 ∷ 0 ∷ 0 ∷ 0 ∷ 0 ∷ 0 ∷ 0 ∷ 0 ∷ []

no_heap : heap_lines [] ≡ []
no_heap = refl

-- parts of zeros aren't told, and the last may be short
second_part : heap_lines (zeros ++ 254 ∷ 255 ∷ 255 ∷ 255 ∷ []) ≡ codes "heap 16 feffffff\n"
unfolding zeros digits encode_with
second_part = refl
