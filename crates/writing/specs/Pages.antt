-- What a page is made of, and what a write leaves of it.
use Rattle.std.specs.Prelude.{◌≡◌, List, ℕ, ◌+◌, ◌≤◌, length}
use denote.Ref.{MutBor}
use Rattle.semantics.specs.Buffers.{written}
use Rattle.writing.specs.declared.Page.{Page}

-- the place behind what stands on a page
abbrev pub place_of : Page → ℕ
place_of p = p.at

-- there is room for so many bytes
abbrev pub HasRoom : Page → ℕ → Type 0
HasRoom p n = p.at + n ≤ length p.out.now

-- a page is a buffer from a place on
pub record IsPageOf (out : MutBor (List ℕ)) (at : ℕ) (p : Page) : Type 0 where
  pub same_reference : p.out.ghost_name ≡ out.ghost_name
  pub same_size : length p.out.now ≡ length out.now
  pub same_bytes : p.out.now ≡ out.now
  pub place : p.at ≡ at

-- a text stands behind what stood there: in the same buffer, which was long enough, and with all other bytes as they were
pub record Wrote (before : Page) (text : List ℕ) (after : Page) : Type 0 where
  pub same_reference : after.out.ghost_name ≡ before.out.ghost_name
  pub same_size : length after.out.now ≡ length before.out.now
  pub within : after.at ≤ length after.out.now
  pub next : after.at ≡ before.at + length text
  pub written : after.out.now ≡ written before.out.now before.at text
