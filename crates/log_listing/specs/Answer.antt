-- What adding a piece of text leaves, and what listing answers.
use Rattle.std.specs.Prelude.{Err, Ok, Result, ◌≡◌, List, ℕ, ◌+◌, ◌≤◌, leb, length}
use Rattle.le.specs.Choice.{pick}
use Rattle.le.specs.Le.{put}
use Rattle.refusal.specs.declared.Refusal.TheVariants as refusal
use Rattle.refusal.specs.declared.Refusal.{Refusal}
use Rattle.log_listing.specs.Listing.{listing}

-- a text of at most n bytes was put into l at `at`, and ends at `end`
pub record Added (n : ℕ) (l : List ℕ) (at : ℕ) (text after : List ℕ) (end : ℕ) : Type 0 where
  pub most : length text ≤ n
  pub place : end ≡ at + length text
  pub bytes : after ≡ put l at text

-- every listing fits into so many bytes
abbrev pub listing_size : ℕ
listing_size = 2048

-- how many bytes the listing has, where the buffer has room for every one; otherwise refusal 1, and the buffer stays as it was
unfoldable pub listed_answer : List ℕ → List ℕ → Result ℕ Refusal
listed_answer l out = pick (leb listing_size (length out)) (Ok (length (listing l))) (Err refusal.Area)

unfoldable pub listed_after : List ℕ → List ℕ → List ℕ
listed_after l out = pick (leb listing_size (length out)) (put out 0 (listing l)) out
