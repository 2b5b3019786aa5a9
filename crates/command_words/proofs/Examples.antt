-- Words that are taken, and words that are not, worked by computation.
use Rattle.std.proofs.Common.{◌≡◌, [], ◌∷◌, Some, None, codes, refl}
use Rattle.clap.proofs.OnLiterals.{clap_on_literals}
use Rattle.command_words.specs.Words.{words_asked}

pub four_by_default : words_asked (codes "session" ∷ []) ≡ Some (record { workers = 4; store = None })
unfolding words_asked clap_on_literals
four_by_default = refl

pub a_number_behind : words_asked (codes "session" ∷ codes "--workers" ∷ codes "07" ∷ []) ≡ Some (record { workers = 7; store = None })
unfolding words_asked clap_on_literals
a_number_behind = refl

pub a_number_before : words_asked (codes "--workers=64" ∷ codes "--" ∷ codes "session" ∷ []) ≡ Some (record { workers = 64; store = None })
unfolding words_asked clap_on_literals
a_number_before = refl

pub too_many : words_asked (codes "session" ∷ codes "--workers" ∷ codes "65" ∷ []) ≡ None
unfolding words_asked clap_on_literals
too_many = refl

pub twice : words_asked (codes "session" ∷ codes "--workers=1" ∷ codes "--workers=1" ∷ []) ≡ None
unfolding words_asked clap_on_literals
twice = refl

pub no_word : words_asked [] ≡ None
unfolding words_asked clap_on_literals
no_word = refl

pub another_word : words_asked (codes "sessions" ∷ []) ≡ None
unfolding words_asked clap_on_literals
another_word = refl

pub another_command : words_asked (codes "run" ∷ []) ≡ None
unfolding words_asked clap_on_literals
another_command = refl

pub a_word_more : words_asked (codes "session" ∷ codes "x" ∷ []) ≡ None
unfolding words_asked clap_on_literals
a_word_more = refl

pub help : words_asked (codes "session" ∷ codes "--help" ∷ []) ≡ None
unfolding words_asked clap_on_literals
help = refl

pub a_store_behind : words_asked (codes "session" ∷ codes "--store" ∷ codes "s" ∷ [])
    ≡ Some (record { workers = 4; store = Some (codes "s") })
unfolding words_asked clap_on_literals
a_store_behind = refl

pub a_store_before : words_asked (codes "--store=s" ∷ codes "session" ∷ []) ≡ Some (record { workers = 4; store = Some (codes "s") })
unfolding words_asked clap_on_literals
a_store_before = refl

pub none_and_a_store : words_asked (codes "session" ∷ codes "--workers" ∷ codes "0" ∷ codes "--store" ∷ codes "s" ∷ [])
    ≡ Some (record { workers = 0; store = Some (codes "s") })
unfolding words_asked clap_on_literals
none_and_a_store = refl

pub a_path_of_no_byte : words_asked (codes "session" ∷ codes "--store=" ∷ []) ≡ Some (record { workers = 4; store = Some (codes "") })
unfolding words_asked clap_on_literals
a_path_of_no_byte = refl

pub no_path : words_asked (codes "session" ∷ codes "--store" ∷ []) ≡ None
unfolding words_asked clap_on_literals
no_path = refl

pub two_stores : words_asked (codes "session" ∷ codes "--store" ∷ codes "a" ∷ codes "--store" ∷ codes "b" ∷ []) ≡ None
unfolding words_asked clap_on_literals
two_stores = refl

pub a_store_and_too_many : words_asked (codes "session" ∷ codes "--store" ∷ codes "s" ∷ codes "--workers" ∷ codes "65" ∷ []) ≡ None
unfolding words_asked clap_on_literals
a_store_and_too_many = refl
