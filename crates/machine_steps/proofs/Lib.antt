mod InnerLaws
