-- The words of buffers by position and index.
use Rattle.std.specs.Prelude.{ℕ, zero, suc, Bool, ◌||◌, ◌&&◌, ◌==◌, nat_lt, if◌then◌else◌, Option, List, [], ◌∷◌, map, slice_get, slice_set}
use Rattle.run_buffers.specs.declared.buffer.Buffer.{Buffer}

-- the set and the binding of each buffer
abbrev pub slots : List Buffer → List (ℕ × ℕ)
slots bs = map (λ b. (b.set, b.binding)) bs

-- the words of the buffer at a position; none where no buffer is
abbrev pub words_at : List Buffer → ℕ → List ℕ
words_at [] position = []
words_at (b ∷ bs) zero = b.words
words_at (b ∷ bs) (suc position) = words_at bs position

-- the word at an index of the buffer at a position
abbrev pub word_at : List Buffer → ℕ → ℕ → Option ℕ
word_at bs position index = slice_get (words_at bs position) index

-- the buffers with that word there; the same where no word is
abbrev pub with_word : List Buffer → ℕ → ℕ → ℕ → List Buffer
with_word [] position index word = []
with_word (b ∷ bs) zero index word = record { set = b.set; binding = b.binding; words = slice_set b.words index word } ∷ bs
with_word (b ∷ bs) (suc position) index word = b ∷ with_word bs position index word

-- the buffer stands before one with that set and binding
abbrev pub is_before : ℕ → ℕ → Buffer → Bool
is_before set binding b = nat_lt b.set set || (b.set == set && nat_lt b.binding binding)

-- the words of the buffer with a set and a binding; none where there is no such buffer
abbrev pub words_of : List Buffer → ℕ → ℕ → List ℕ
words_of [] set binding = []
words_of (b ∷ bs) set binding = if b.set == set && b.binding == binding then b.words else words_of bs set binding
