-- What is printed of a run: a line for each event, then a line for the end and one for each part of the heap that isn't all 0.
-- Numbers are decimal, and each line is ended by a line feed.
use Rattle.std.specs.Prelude.{ℕ, ◌*◌, ◌==◌, Bool, if◌then◌else◌, List, [], ◌++◌, length, take, drop, Option, Some, None, codes, decimal}
use Rattle.std.specs.Fmt.{signed_decimal}
use Rattle.std.specs.Int.{div_ceil}
use Rattle.std.specs.List.{flat_map, list_all, range_with_len}
use Rattle.hex.specs.Hex.{encode_lower}
use Rattle.sem_words.specs.Words.{signed_of, trap_code}
use Rattle.sem_words.specs.declared.word.Word.{Word}
use Rattle.sem_words.specs.declared.word.Word.TheVariants.{W32, W64}
use Rattle.session_lang.specs.Observation.{EventPlain, import_called, call_gave, call_returned, EndPlain, done, stopped, no_reply, trapped, ObservationPlain}

abbrev pub line : List ℕ → List ℕ
line text = text ++ codes "\n"

-- a word by its signed reading
abbrev pub word_text : Word → List ℕ
word_text (W32 word) = signed_decimal (signed_of 32 word)
word_text (W64 word) = signed_decimal (signed_of 64 word)

-- the words of a call's arguments, each behind a space
abbrev pub words_text : List Word → List ℕ
words_text words = flat_map (λ w. codes " " ++ word_text w) words

-- ---- events

abbrev pub event_line : EventPlain → List ℕ
event_line (import_called name args) = line (codes "import " ++ name ++ words_text args)
event_line (call_gave word) = line (codes "result " ++ word_text word)
event_line call_returned = line (codes "returned")

abbrev pub event_lines : List EventPlain → List ℕ
event_lines events = flat_map event_line events

-- ---- ends

abbrev pub end_line : EndPlain → List ℕ
end_line done = line (codes "end done")
end_line (stopped name args) = line (codes "end stopped " ++ name ++ words_text args)
end_line (no_reply name args) = line (codes "end no-reply " ++ name ++ words_text args)
end_line (trapped kind) = line (codes "end trap " ++ decimal (trap_code kind))

-- ---- the heap, by sixteen bytes

abbrev pub are_zero : List ℕ → Bool
are_zero bytes = list_all (λ b. b == 0) bytes

-- bytes at a place, where they aren't all 0
abbrev pub bytes_line : ℕ → List ℕ → List ℕ
bytes_line at bytes = if are_zero bytes then [] else line (codes "heap " ++ decimal at ++ codes " " ++ encode_lower bytes)

-- the n-th sixteen bytes; there may be fewer at the heap's end
abbrev pub sixteen : List ℕ → ℕ → List ℕ
sixteen heap n = take 16 (drop (16 * n) heap)

abbrev pub heap_line : List ℕ → ℕ → List ℕ
heap_line heap n = bytes_line (16 * n) (sixteen heap n)

abbrev pub heap_lines : List ℕ → List ℕ
heap_lines heap = flat_map (heap_line heap) (range_with_len 0 (div_ceil (length heap) 16))

-- ---- the whole run

-- the heap is told at an end alone
abbrev pub ending_lines : Option EndPlain → List ℕ → List ℕ
ending_lines None heap = line (codes "still running")
ending_lines (Some end) heap = end_line end ++ heap_lines heap

abbrev pub observation_text : ObservationPlain → List ℕ
observation_text o = event_lines o.events ++ ending_lines o.end o.heap
