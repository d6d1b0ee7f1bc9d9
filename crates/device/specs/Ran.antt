-- Writes done one after the other on two disks, with deaths between any two. Definitions only.
use Rattle.std.specs.Prelude.{◌≡◌, ℕ, Bool, true, ◌&&◌, ◌||◌, ◌⊎◌, List, [], ◌∷◌, Some, None, Option}
use Rattle.model.specs.Book.{Page}
use Rattle.model.specs.Disks.{On, View, wrote, killed}
use Rattle.model.specs.Plain.{Put, put}
use Rattle.device.specs.Blocks.{Shows}
use Rattle.device.specs.Known.{Known}
use Rattle.device.specs.declared.mirror.Side.{Side}
use Rattle.device.specs.declared.mirror.Side.TheVariants.{First, Second}

-- these writes, each in its turn; a disk may die before, between and after them
pub data Ran : List (On Put) → View → View → Type 0 where
  stays : {d : View} → Ran [] d d
  writes : {ws : List (On Put)} {d e : View} (w : On Put) → Ran ws (wrote put w d) e → Ran (w ∷ ws) d e
  dies : {ws : List (On Put)} {d e : View} (k : ℕ) → Ran ws (killed k d) e → Ran ws d e

-- a disk's number in the model
abbrev pub side_number : Side → ℕ
side_number First = 0
side_number Second = 1

-- two disks of which all is known
pub record Both : Type 0 where
  pub first : Known
  pub second : Known

abbrev pub view : Both → View
view d = d.first ∷ (d.second ∷ [])

abbrev pub one_lives : Both → Bool
one_lives d = d.first.lives || d.second.lives

abbrev pub both_live : Both → Bool
both_live d = d.first.lives && d.second.lives

-- two together are known if both are
unfoldable pub together : Option Known → Option Known → Option Both
together None b = None
together (Some a) None = None
together (Some a) (Some b) = Some (record { first = a; second = b })

-- from one known state to another by these writes
abbrev pub Did : Option Both → Option Both → List (On Put) → Type 0
Did before after ws = (d : Both) → before ≡ Some d → (e : Both) × (after ≡ Some e) × Ran ws (view d) (view e)

abbrev pub known_of : Side → Both → Known
known_of First d = d.first
known_of Second d = d.second

-- whether the disk of a side lives afterwards
abbrev pub TellsOne : Option Both → Option Both → Side → Bool → Type 0
TellsOne before after side r = (d : Both) → before ≡ Some d → (e : Both) → after ≡ Some e → r ≡ (known_of side e).lives

-- h is what one of two living disks has
abbrev pub OnOne : List Page → Both → Type 0
OnOne h d = ((d.first.lives ≡ true) × (d.first.has ≡ h)) ⊎ ((d.second.lives ≡ true) × (d.second.has ≡ h))

-- blocks read off a disk that lives; false if none does
abbrev pub Fetched : Option Both → Option Both → ℕ → List ℕ → Bool → Type 0
Fetched before after from out r =
    (d : Both) → before ≡ Some d →
    (e : Both) × (after ≡ Some e) × Ran [] (view d) (view e) × (r ≡ one_lives e) × (r ≡ true → (h : List Page) × OnOne h d × Shows out h from)

-- the same blocks read off both; false if one of them is dead
abbrev pub FetchedBoth : Option Both → Option Both → ℕ → List ℕ → List ℕ → Bool → Type 0
FetchedBoth before after from p q r =
    (d : Both) → before ≡ Some d →
    (e : Both) × (after ≡ Some e) × Ran [] (view d) (view e) × (r ≡ both_live e) × (r ≡ true → (e ≡ d) × Shows p d.first.has from × Shows q d.second.has from)

abbrev pub TellsLife : Option Both → Bool → Type 0
TellsLife before r = (d : Both) → before ≡ Some d → r ≡ one_lives d
