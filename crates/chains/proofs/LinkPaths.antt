-- Paths of links: none, a link more, two paths one after the other, and what the links of a path keep.
use Rattle.chains.proofs.Words.{IsPath, LeadsTo, Link}
use Rattle.std.proofs.Common.{Contains, List, [], refl, subst, sym, ℕ, ◌++◌, ◌∷◌}

module _ (links : List Link) where
  pub LeadsTo-none : (u : ℕ) → LeadsTo links u u
  LeadsTo-none u = ([], refl)

  IsPath-append : (path rest : List Link) (u v w : ℕ) → IsPath links path u v → IsPath links rest v w
      → IsPath links (path ++ rest) u w
  IsPath-append [] rest u v w same after = subst (λ x. IsPath links rest x w) (sym same) after
  IsPath-append (l ∷ path) rest u v w before after =
      (before.0, before.1, IsPath-append path rest l.to v w before.2 after)

  -- two paths one after the other
  pub LeadsTo-append : (u v w : ℕ) → LeadsTo links u v → LeadsTo links v w → LeadsTo links u w
  LeadsTo-append u v w before after = (before.0 ++ after.0, IsPath-append before.0 after.0 u v w before.1 after.1)

  -- a path, and a link on from its end
  pub LeadsTo-link : (u : ℕ) (l : Link) → LeadsTo links u l.from → Contains links l → LeadsTo links u l.to
  LeadsTo-link u l before there = LeadsTo-append u l.from l.to before (l ∷ [], (there, refl, refl))

  -- what each link keeps, a path keeps
  pub IsPath-keeps : (P : ℕ → Type 0) → ((l : Link) → Contains links l → P l.from → P l.to)
      → (path : List Link) (u v : ℕ) → IsPath links path u v → P u → P v
  IsPath-keeps P step [] u v same here = subst P same here
  IsPath-keeps P step (l ∷ path) u v is here =
      IsPath-keeps P step path l.to v is.2 (step l is.0 (subst P (sym is.1) here))
