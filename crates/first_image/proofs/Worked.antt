-- The definitions computed on a shader: its words are those that were worked out by hand, and both meanings run to the same events.
use Rattle.std.proofs.Common.{◌≡◌, [], ◌∷◌, refl}
use Rattle.behavior.specs.Meanings.{Write, Done, Undefined, Ids}
use Rattle.spirv_words.specs.Words.{image_words}
use Rattle.spirv_words.specs.Runs.{words}
use Rattle.first_form.specs.declared.shader.Shader.{Shader}
use Rattle.first_form.specs.declared.shader.Item.TheVariants.{Number, X}
use Rattle.first_image.specs.Source.{source}
use Rattle.first_image.specs.Image.{image_of}

-- `outp[tid.x] = tid.x + 1u;` in `main`
abbrev increment : Shader
increment = record {
  buffer = 111 ∷ 117 ∷ 116 ∷ 112 ∷ [];
  entry = 109 ∷ 97 ∷ 105 ∷ 110 ∷ [];
  parameter = 116 ∷ 105 ∷ 100 ∷ [];
  group = record { x = 1; y = 1; z = 1 };
  statements = (record { index = record { first = X; rest = [] }; value = record { first = X; rest = Number 1 ∷ [] } }) ∷ [];
}

increment_words : image_words (image_of (97 ∷ []) increment) ≡
    119734787 ∷ 66816 ∷ 0 ∷ 55 ∷ 0 ∷ 131089 ∷ 1 ∷ 196622 ∷ 0 ∷ 1 ∷ 458767 ∷ 5 ∷
    45 ∷ 1852399981 ∷ 0 ∷ 43 ∷ 44 ∷ 393232 ∷ 45 ∷ 17 ∷ 1 ∷ 1 ∷ 1 ∷ 262149 ∷
    43 ∷ 1970220641 ∷ 28788 ∷ 262149 ∷ 45 ∷ 1634545249 ∷ 28265 ∷ 262215 ∷ 15 ∷ 6 ∷ 4 ∷ 196679 ∷
    16 ∷ 2 ∷ 327752 ∷ 16 ∷ 0 ∷ 35 ∷ 0 ∷ 262215 ∷ 43 ∷ 34 ∷ 0 ∷ 262215 ∷
    43 ∷ 33 ∷ 0 ∷ 262215 ∷ 44 ∷ 11 ∷ 28 ∷ 131091 ∷ 1 ∷ 131092 ∷ 2 ∷ 262165 ∷
    3 ∷ 32 ∷ 1 ∷ 262165 ∷ 4 ∷ 32 ∷ 0 ∷ 262167 ∷ 5 ∷ 3 ∷ 2 ∷ 262167 ∷
    6 ∷ 3 ∷ 3 ∷ 262167 ∷ 7 ∷ 3 ∷ 4 ∷ 262167 ∷ 8 ∷ 4 ∷ 2 ∷ 262167 ∷
    9 ∷ 4 ∷ 3 ∷ 262167 ∷ 10 ∷ 4 ∷ 4 ∷ 196649 ∷ 2 ∷ 11 ∷ 196650 ∷ 2 ∷
    12 ∷ 262187 ∷ 4 ∷ 13 ∷ 0 ∷ 262187 ∷ 4 ∷ 14 ∷ 1 ∷ 196637 ∷ 15 ∷ 4 ∷
    196638 ∷ 16 ∷ 15 ∷ 262176 ∷ 17 ∷ 7 ∷ 2 ∷ 262176 ∷ 18 ∷ 7 ∷ 3 ∷ 262176 ∷
    19 ∷ 7 ∷ 4 ∷ 262176 ∷ 20 ∷ 7 ∷ 5 ∷ 262176 ∷ 21 ∷ 7 ∷ 6 ∷ 262176 ∷
    22 ∷ 7 ∷ 7 ∷ 262176 ∷ 23 ∷ 7 ∷ 8 ∷ 262176 ∷ 24 ∷ 7 ∷ 9 ∷ 262176 ∷
    25 ∷ 7 ∷ 10 ∷ 262176 ∷ 26 ∷ 12 ∷ 3 ∷ 262176 ∷ 27 ∷ 12 ∷ 4 ∷ 262176 ∷
    28 ∷ 2 ∷ 3 ∷ 262176 ∷ 29 ∷ 2 ∷ 4 ∷ 262176 ∷ 30 ∷ 1 ∷ 9 ∷ 262176 ∷
    31 ∷ 1 ∷ 4 ∷ 262176 ∷ 32 ∷ 12 ∷ 16 ∷ 196641 ∷ 33 ∷ 1 ∷ 196654 ∷ 2 ∷
    34 ∷ 196654 ∷ 3 ∷ 35 ∷ 196654 ∷ 4 ∷ 36 ∷ 196654 ∷ 5 ∷ 37 ∷ 196654 ∷ 6 ∷
    38 ∷ 196654 ∷ 7 ∷ 39 ∷ 196654 ∷ 8 ∷ 40 ∷ 196654 ∷ 9 ∷ 41 ∷ 196654 ∷ 10 ∷
    42 ∷ 262203 ∷ 32 ∷ 43 ∷ 12 ∷ 262203 ∷ 30 ∷ 44 ∷ 1 ∷ 327734 ∷ 1 ∷ 45 ∷
    0 ∷ 33 ∷ 131320 ∷ 46 ∷ 262203 ∷ 24 ∷ 47 ∷ 7 ∷ 262205 ∷ 9 ∷ 48 ∷ 44 ∷
    196670 ∷ 47 ∷ 48 ∷ 327745 ∷ 19 ∷ 49 ∷ 47 ∷ 13 ∷ 262205 ∷ 4 ∷ 50 ∷ 49 ∷
    327745 ∷ 19 ∷ 51 ∷ 47 ∷ 13 ∷ 262205 ∷ 4 ∷ 52 ∷ 51 ∷ 327808 ∷ 4 ∷ 53 ∷
    52 ∷ 14 ∷ 393281 ∷ 27 ∷ 54 ∷ 43 ∷ 13 ∷ 50 ∷ 196670 ∷ 54 ∷ 53 ∷ 65789 ∷
    65592 ∷ []
increment_words = refl

abbrev ids : Ids
ids = record { group = (3, 0, 0); local = (0, 0, 0); global = (3, 0, 0); index = 0 }

-- index 3 of four words gets 4
increment_source : source increment ids (λ set binding. 4) [] 0 ≡ record { events = Write 0 0 3 4 ∷ []; ending = Done }
increment_source = refl

increment_run : words (image_of (97 ∷ []) increment) ids (λ set binding. 4) [] 12 ≡ record { events = Write 0 0 3 4 ∷ []; ending = Done }
increment_run = refl

-- with three words the run is undefined, and nothing was written
increment_beyond : words (image_of (97 ∷ []) increment) ids (λ set binding. 3) [] 12 ≡ record { events = []; ending = Undefined }
increment_beyond = refl
