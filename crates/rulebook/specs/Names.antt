-- Document 01, "The day's lines", identifiers and MPIDs: types of their own, equal as their bytes are equal.
-- That packing bytes into words loses nothing is shown where bytes are read.
use Rattle.std.specs.Prelude.{Bool, ◌&&◌, List, [], ◌∷◌, ℕ, ◌+◌, ◌*◌, eqb, take, drop}
use Prim.Native.Char.{code}
use Prim.Native.String.{String}
use Rattle.laws.specs.Tests.{Exact, eqb_exact, exact_by, exact_both}

-- the bytes of a text
abbrev pub bytes : String → List ℕ
bytes String.[] = []
bytes (String.◌∷◌ c s) = code c ∷ bytes s

-- bytes as one number, the first byte lowest
unfoldable pub word : List ℕ → ℕ
word [] = 0
word (c ∷ cs) = c + 256 * word cs

-- an identifier's or a target's bytes, eight to a word, zeros after the last
pub record Ident : Type 0 where
  pub head : ℕ
  pub middle : ℕ
  pub tail : ℕ

abbrev pub ident_of : List ℕ → Ident
ident_of cs = record { head = word (take 8 cs); middle = word (take 8 (drop 8 cs)); tail = word (drop 16 cs) }

-- an MPID's four bytes in a word
pub record Mpid : Type 0 where
  pub code : ℕ

abbrev pub mpid_of : List ℕ → Mpid
mpid_of cs = record { code = word cs }

-- who owns an identifier: "Identifiers are kept per MPID"
pub record Owner : Type 0 where
  pub mpid : Mpid

-- an identifier with its owner: what a request is known by, and the order of a passed N, and what a target names
pub record Key : Type 0 where
  pub owner : Owner
  pub name : Ident

-- equal as the bytes are equal
abbrev pub same_ident : Ident → Ident → Bool
same_ident x y = eqb x.head y.head && (eqb x.middle y.middle && eqb x.tail y.tail)

abbrev pub same_mpid : Mpid → Mpid → Bool
same_mpid x y = eqb x.code y.code

abbrev pub same_owner : Owner → Owner → Bool
same_owner x y = same_mpid x.mpid y.mpid

abbrev pub same_key : Key → Key → Bool
same_key x y = same_owner x.owner y.owner && same_ident x.name y.name

pub ident_exact : Exact same_ident
ident_exact = exact_both (λ (x : Ident). x.head) eqb_exact (λ x. record { m = x.middle; t = x.tail })
    (exact_both (λ (x : record { m : ℕ; t : ℕ }). x.m) eqb_exact (λ x. x.t) eqb_exact (λ x y p q i. record { m = p i; t = q i }))
    (λ x y p q i. record { head = p i; middle = (q i).m; tail = (q i).t })

pub mpid_exact : Exact same_mpid
mpid_exact = exact_by (λ (x : Mpid). x.code) eqb_exact (λ x y p i. record { code = p i })

pub owner_exact : Exact same_owner
owner_exact = exact_by (λ (x : Owner). x.mpid) mpid_exact (λ x y p i. record { mpid = p i })

pub key_exact : Exact same_key
key_exact = exact_both (λ (x : Key). x.owner) owner_exact (λ x. x.name) ident_exact (λ x y p q i. record { owner = p i; name = q i })
