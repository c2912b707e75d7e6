-- Laws of records: the next record of some bytes, when it was written and when it was read.
use Prim.Native.Nat.{ℕ, suc, ◌+◌, ◌-◌, ◌*◌, ◌/◌, ◌%◌, ◌≤◌, ◌<◌}
use mathlib.Core.Path.{◌≡◌, refl, sym, ◌∙◌, ap}
use mathlib.Core.Bool.{Bool, true, false, cond, not}
use mathlib.Core.List.{List, [], ◌∷◌, ◌++◌}
use native.Mathlib.Omega.{arith}
use lib.ListN.{length, get_or, take, drop, length-append, length-take, length-drop, take-append-drop}
use lib.Seq.{length-take-le, drop-cons, drop-drop, get_or-drop, get_or-take, take-append_seam, drop-append_seam}
use lib.Dec.{ltb}
use borrow.Author.Tests.{le-ltb, ltb-false}
use Rattle.hml.proofs.Tests.{apart, decides}
use Rattle.labels.specs.declared.refusal.Refusal.TheVariants.{Truncated, WrongKind, WrongLength}
use Rattle.records.specs.Records.{word_at, lengths_of, fit_length, may_stand, next_at, body_of, record_bytes}
use Rattle.records.proofs.Records.{decided_fit, fit_some}
use Rattle.records.specs.declared.record.Cursor.{Cursor}
use Rattle.records.specs.declared.record.Record.{Record}
use Rattle.std.specs.Prelude.{Result, Err, Ok}
use Rattle.labels.specs.declared.refusal.Refusal.{Refusal}

-- all elements are bytes
abbrev pub Bytes : List ℕ → Type 0
Bytes s = (i : ℕ) → get_or s i 0 < 256

-- pairs that are given alike are alike in both parts
ok_pair : {T U E : Type 0} {a c : T} {b d : U} → ◌≡◌ {A = Result (T × U) E} (Ok (a, b)) (Ok (c, d)) → (a ≡ c) × (b ≡ d)
ok_pair {T} {U} {E} {a} {c} {b} {d} e = let p : ◌≡◌ {A = T × U} (a, b) (c, d) = cc in (ap (λ t. t.0) p, ap (λ t. t.1) p)

-- the record whose body stands behind four bytes at a position
abbrev pub placed : ℕ → ℕ → List ℕ → Record
placed kind at body = record { kind = kind; start = at + 4; len = length body }

-- and the position behind it
abbrev pub behind : ℕ → List ℕ → Cursor
behind at body = record { at = at + 4 + length body }

-- a record that lies in some bytes, from a position on: it stands there as bytes, its kind is one of those that may
-- stand there, its length fits the kind, and the next position is behind it
pub record Lies (s : List ℕ) (at : ℕ) (kinds : List ℕ) (r : Record) (c : Cursor) : Type 0 where
  pub bytes : drop at s ≡ record_bytes r.kind (body_of s r) ++ drop c.at s
  pub body_length : length (body_of s r) ≡ r.len
  pub may : may_stand kinds r.kind ≡ true
  pub fits : fit_length r.kind (2 + length (body_of s r)) ≡ true
  pub start_is : r.start ≡ at + 4
  pub behind_is : c.at ≡ at + 4 + r.len
  pub room : c.at ≤ length s

-- a word of two bytes is what its bytes say, and bytes are those of their word
words : (n : ℕ) → n % 256 + 256 * (n / 256) ≡ n
words n = omega arith

low_byte : (a b : ℕ) → a < 256 → (a + 256 * b) % 256 ≡ a
low_byte a b h = omega arith

high_byte : (a b : ℕ) → a < 256 → (a + 256 * b) / 256 ≡ b
high_byte a b h = omega arith

-- the length of a record: two bytes for its length, two for its kind, then the body
pub record-length : (kind : ℕ) (body : List ℕ) → length (record_bytes kind body) ≡ 4 + length body
unfolding record_bytes
record-length kind body = omega arith

module _ (s : List ℕ) (at : ℕ) where
  -- bytes from a position on, by the place in them
  word_behind : (i : ℕ) → word_at s (at + i) ≡ word_at (drop at s) i
  word_behind i =
      rw (get_or-drop at s i 0, get_or-drop at s (i + 1) 0) (let e : at + i + 1 ≡ at + (i + 1) = omega arith in rw e)

  -- the first four bytes from a position on
  four : at + 4 ≤ length s
      → drop at s ≡ get_or s at 0 ∷ get_or s (at + 1) 0 ∷ get_or s (at + 2) 0 ∷ get_or s (at + 3) 0 ∷ drop (at + 4) s
  four h =
      let a : suc at ≡ at + 1 = omega arith in
      let b : suc (at + 1) ≡ at + 2 = omega arith in
      let c : suc (at + 2) ≡ at + 3 = omega arith in
      let d : suc (at + 3) ≡ at + 4 = omega arith in
      rw (
        drop-cons s at 0 (omega arith),
        a,
        drop-cons s (at + 1) 0 (omega arith),
        b,
        drop-cons s (at + 2) 0 (omega arith),
        c,
        drop-cons s (at + 3) 0 (omega arith),
        d,
      )

module _ (s : List ℕ) (at : ℕ) (kinds : List ℕ) where
  -- a record is found if it is there
  found-next : (kind n : ℕ) → word_at s at ≡ n → word_at s (at + 2) ≡ kind → may_stand kinds kind ≡ true
      → fit_length kind n ≡ true → at + 4 ≤ length s → at + 2 + n ≤ length s
      → next_at s at kinds ≡ Ok (record { kind = kind; start = at + 4; len = n - 2 }, record { at = at + 2 + n })
  unfolding next_at
  found-next kind n e f m g a b =
      rw (le-ltb (length s) (at + 4) a, f, m, e, g, le-ltb (length s) (at + 2 + n) b)

  -- stepping over a record that was written gives it, and leaves what was written behind it
  pub next-record : (kind : ℕ) (body rest : List ℕ) → may_stand kinds kind ≡ true
      → fit_length kind (2 + length body) ≡ true
      → drop at s ≡ record_bytes kind body ++ rest
      → (next_at s at kinds ≡ Ok (placed kind at body, behind at body))
      × (body_of s (placed kind at body) ≡ body)
      × (drop (at + 4 + length body) s ≡ rest)
  unfolding record_bytes body_of
  next-record kind body rest may g e = (
    found,
    rw body_on (take-append_seam body rest),
    rw (← drop-drop (length body) (at + 4) s, body_on) (drop-append_seam body rest),
  )
    where
      room : at + 4 + length body + length rest ≡ length s
      room = omega (arith, simp length-append at (ap length e), length-drop at s)

      body_on : drop (at + 4) s ≡ body ++ rest
      body_on = rw (← drop-drop 4 at s, e)

      found : next_at s at kinds ≡ Ok (placed kind at body, behind at body)
      found =
          let z : at + 0 ≡ at = omega arith in
          let m : 2 + length body - 2 ≡ length body = omega arith in
          let n : at + 2 + (2 + length body) ≡ at + 4 + length body = omega arith in
          let w = rw z at (word_behind s at 0) in
          rw (m, n) at (found-next kind (2 + length body) (w ∙ rw e (words (2 + length body)))
          (word_behind s at 2 ∙ rw e (words kind)) may g (omega (arith, room)) (omega (arith, room)))

  -- what the bytes are if a record is found
  record Seen (r : Record) (c : Cursor) : Type 0 where
    head : at + 4 ≤ length s
    may : may_stand kinds (word_at s (at + 2)) ≡ true
    fits : fit_length (word_at s (at + 2)) (word_at s at) ≡ true
    room : at + 2 + word_at s at ≤ length s
    found : r ≡ record { kind = word_at s (at + 2); start = at + 4; len = word_at s at - 2 }
    behind : c ≡ record { at = at + 2 + word_at s at }

  seen : (r : Record) (c : Cursor) → next_at s at kinds ≡ Ok (r, c) → Seen r c
  unfolding next_at
  seen r c e =
      go (ltb (length s) (at + 4)) (may_stand kinds (word_at s (at + 2))) (fit_length (word_at s (at + 2)) (word_at s at))
      (ltb (length s) (at + 2 + word_at s at)) refl refl refl refl e
    where
      go : (a b d f : Bool) → ltb (length s) (at + 4) ≡ a → may_stand kinds (word_at s (at + 2)) ≡ b
          → fit_length (word_at s (at + 2)) (word_at s at) ≡ d → ltb (length s) (at + 2 + word_at s at) ≡ f
          → cond {A = Result (Record × Cursor) Refusal} a (Err Truncated)
          (cond (not b) (Err WrongKind)
          (cond (not d) (Err WrongLength) (cond f (Err Truncated)
          (Ok (record { kind = word_at s (at + 2); start = at + 4; len = word_at s at - 2 }, record { at = at + 2 + word_at s at }))))) ≡ Ok (r, c)
          → Seen r c
      go true b d f ea eb ed ef e = absurd (apart cc)
      go false false d f ea eb ed ef e = absurd (apart cc)
      go false true false f ea eb ed ef e = absurd (apart cc)
      go false true true true ea eb ed ef e = absurd (apart cc)
      go false true true false ea eb ed ef e = record {
        head = ltb-false (length s) (at + 4) ea;
        may = eb;
        fits = ed;
        room = ltb-false (length s) (at + 2 + word_at s at) ef;
        found = sym (ok_pair e).0;
        behind = sym (ok_pair e).1;
      }

  -- a record that was found has one of the kinds that may stand there, and a length that fits that kind
  pub found_kind : (r : Record) (c : Cursor) → next_at s at kinds ≡ Ok (r, c) → may_stand kinds r.kind ≡ true
  found_kind r c e = let w = seen r c e in rw w.found w.may

  pub found-fits : (r : Record) (c : Cursor) → next_at s at kinds ≡ Ok (r, c) → fit_length r.kind (2 + r.len)
      ≡ true
  found-fits r c e =
      let w = seen r c e in
      let some = fit_some (word_at s (at + 2)) (word_at s at) w.fits in
      let n : 2 + (word_at s at - 2) ≡ word_at s at = omega (arith, some) in
      rw (w.found, n) w.fits

  -- a record that stepping over finds stands there as bytes
  pub record-next : Bytes s → (r : Record) (c : Cursor) → next_at s at kinds ≡ Ok (r, c) → Lies s at kinds r c
  unfolding record_bytes body_of
  record-next b r c e = let w = seen r c e in rw (w.found, w.behind) (lies w.head w.may w.fits w.room)
    where
      kind : ℕ
      kind = word_at s (at + 2)

      n : ℕ
      n = word_at s at

      body : List ℕ
      body = take (n - 2) (drop (at + 4) s)

      lies : at + 4 ≤ length s → may_stand kinds kind ≡ true → fit_length kind n ≡ true → at + 2 + n ≤ length s
          → Lies s at kinds (record { kind = kind; start = at + 4; len = n - 2 }) (record { at = at + 2 + n })
      lies h may f room =
          let some = fit_some kind n f in
          let m : length body ≡ n - 2 = length-take-le (n - 2) (drop (at + 4) s)
          (omega (arith, length-drop (at + 4) s)) in
          let z : 2 + length body ≡ n = omega (arith, m) in
          let t : at + 2 + 1 ≡ at + 3 = omega arith in
          let d : at + 4 + (n - 2) ≡ at + 2 + n = omega arith in
          record {
            bytes = rw (
              z,
              low_byte (get_or s at 0) (get_or s (at + 1) 0) (b at),
              high_byte (get_or s at 0) (get_or s (at + 1) 0) (b at),
              low_byte (get_or s (at + 2) 0) (get_or s (at + 2 + 1) 0) (b (at + 2)),
              high_byte (get_or s (at + 2) 0) (get_or s (at + 2 + 1) 0) (b (at + 2)),
              t,
              ← d,
              ← drop-drop (n - 2) (at + 4) s,
              take-append-drop (n - 2) (drop (at + 4) s),
            ) (four s at h);
            start_is = refl;
            behind_is = omega arith;
            room = room;
            body_length = m;
            may = may;
            fits = rw z f;
          }

-- the header's body is one byte
pub header-fits : (n : ℕ) → fit_length 1 (2 + n) ≡ true → n ≡ 1
unfolding lengths_of
header-fits n e = omega (arith, (decides (decided_fit 1 (2 + n))).0 e)

-- the first byte of a body, where it has one
pub first_byte : (s : List ℕ) (r : Record) → 1 ≤ length (body_of s r) → get_or (body_of s r) 0 0 ≡ get_or s r.start 0
unfolding body_of
first_byte s r h =
    let z : r.start + 0 ≡ r.start = omega arith in
    rw (
      get_or-take r.len (drop r.start s) 0 0 (omega (arith, length-take r.len (drop r.start s))),
      get_or-drop r.start s 0 0,
      z,
    )

-- a list of one element is that element alone
pub single : (l : List ℕ) → length l ≡ 1 → l ≡ get_or l 0 0 ∷ []
single [] e = absurd (omega (arith, e))
single (x ∷ []) e = refl
single (x ∷ y ∷ l) e = absurd (omega (arith, e))
