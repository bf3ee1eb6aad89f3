-- The next token, with and without its bytes.
use Rattle.std.proofs.Common.{◌≡◌, ℕ, zero, suc, List, [], ◌∷◌, drop, Option, Some, None, refl, sym, ◌∙◌, ap, subst}
use Rattle.std.specs.Prelude.{IfSome}
use Rattle.std.specs.Option.{option_map}
use Rattle.slang_tokens.specs.declared.tokens.Token.{Token}
use Rattle.slang_reading.specs.Lexed.{Lexed, lexed, lexed_all, token_of, bytes_at}
use Rattle.slang_reading.specs.Reading.{first, place_of}
use Rattle.slang_reading.specs.Cursor.{Cursor}

first_lexed : (text : List ℕ) (ts : List Token) (i : ℕ) → first (drop i (lexed_all text ts)) ≡ option_map (lexed text) (first (drop i ts))
first_lexed text [] zero = refl
first_lexed text [] (suc i) = refl
first_lexed text (t ∷ ts) zero = refl
first_lexed text (t ∷ ts) (suc i) = first_lexed text ts i

without_bytes : (text : List ℕ) (o : Option Token) → option_map token_of (option_map (lexed text) o) ≡ o
without_bytes text (Some t) = refl
without_bytes text None = refl

-- the token that lies there is what the cursor shows
pub token_seen : (text : List ℕ) (ts : List Token) (i : ℕ) (r : Option Token) (shown : Cursor) → r ≡ first (drop i ts) → lexed_all text ts ≡ shown.tokens → i ≡ shown.at →
    r ≡ option_map token_of (first (drop shown.at shown.tokens))
token_seen text ts i r shown e d k =
    e ∙ (sym (ap (option_map token_of) (first_lexed text ts i) ∙ without_bytes text (first (drop i ts)))
    ∙ (ap (λ us. option_map token_of (first (drop i us))) d ∙ ap (λ n. option_map token_of (first (drop n shown.tokens))) k))

-- and so are its bytes
pub bytes_seen : (text : List ℕ) (ts : List Token) (i : ℕ) (t : Token) (bytes : List ℕ) (shown : Cursor) → Some t ≡ first (drop i ts) → bytes ≡ bytes_at text t.place →
    lexed_all text ts ≡ shown.tokens → i ≡ shown.at → IfSome (first (drop shown.at shown.tokens)) (λ l. bytes ≡ l.bytes)
bytes_seen text ts i t bytes shown e b d k =
    let there : Some (lexed text t) ≡ first (drop shown.at shown.tokens) =
    ap (option_map (lexed text)) e ∙ (sym (first_lexed text ts i) ∙ (ap (λ us. first (drop i us)) d ∙ ap (λ n. first (drop n shown.tokens)) k)) in
    subst (λ (o : Option Lexed). IfSome o (λ l. bytes ≡ l.bytes)) there b

-- behind the last token there are none
pub none_seen : (text : List ℕ) (ts : List Token) (i : ℕ) (bytes : List ℕ) (shown : Cursor) → None ≡ first (drop i ts) →
    lexed_all text ts ≡ shown.tokens → i ≡ shown.at → IfSome (first (drop shown.at shown.tokens)) (λ l. bytes ≡ l.bytes)
none_seen text ts i bytes shown e d k =
    let there : None ≡ first (drop shown.at shown.tokens) =
    ap (option_map (lexed text)) e ∙ (sym (first_lexed text ts i) ∙ (ap (λ us. first (drop i us)) d ∙ ap (λ n. first (drop n shown.tokens)) k)) in
    subst (λ (o : Option Lexed). IfSome o (λ l. bytes ≡ l.bytes)) there tt

-- the place of the next token
pub place_seen : (text : List ℕ) (ts : List Token) (i : ℕ) (shown : Cursor) → lexed_all text ts ≡ shown.tokens → i ≡ shown.at →
    place_of (option_map (lexed text) (first (drop i ts))) ≡ place_of (first (drop shown.at shown.tokens))
place_seen text ts i shown d k =
    ap place_of (sym (first_lexed text ts i) ∙ (ap (λ us. first (drop i us)) d ∙ ap (λ n. first (drop n shown.tokens)) k))
