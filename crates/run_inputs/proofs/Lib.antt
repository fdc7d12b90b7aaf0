mod ChoicesLaws
