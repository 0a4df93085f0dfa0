-- What a lent buffer holds after a write.
use Rattle.std.specs.Prelude.{List, ◌++◌, ℕ, ◌+◌, length, take, drop}

-- a buffer with bytes written at a place: all others are as they were
abbrev pub written : List ℕ → ℕ → List ℕ → List ℕ
written s at bytes = take at s ++ (bytes ++ drop (at + length bytes) s)
